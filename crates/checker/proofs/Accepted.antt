-- What is known of an accepted image: for every row of every table what its question says.
use Rattle.std.specs.Prelude.{Result, Some, Ok}
use Rattle.header.specs.declared.Tables.{Tables}
use Rattle.header.specs.declared.Tables.{Tables}
use mathlib.Core.Path.{◌≡◌, refl, sym, ◌∙◌, ap}
use mathlib.Core.Bool.{Bool, true, false}
use mathlib.Core.List.{List}
use Prim.Native.Nat.{ℕ, ◌+◌, ◌≤◌, ◌<◌}
use native.Mathlib.Omega.{arith}
use Rattle.prelude.specs.Choice.{choose}
use Rattle.prelude.proofs.Choice.{clash}
use Rattle.image.specs.Rows.{rows_of}
use Rattle.image.proofs.Versions.{three_rows}
use Rattle.header.specs.Header.{version_of, question1, question2, question3, tables_in, header_of}
use Rattle.header.proofs.Fitting.{header_fits, HeaderCase, HeaderCase.first_no_lem, HeaderCase.second_no, HeaderCase.third_no}
use Rattle.header.proofs.Fitting.{HeaderCase.all_yes, header_case}
use Rattle.shapes.proofs.Accepted.{TypesKept}
use Rattle.types.specs.Question.{TypesAccepted}
use Rattle.types.proofs.Accepted.{types_kept}
use Rattle.frames.specs.Variables.{question5}
use Rattle.frames.specs.Procedures.{question6}
use Rattle.frames.proofs.Accepted.{VariableRow, variables_kept, ProceduresKept, procedures_kept}
use Rattle.nodes.proofs.Accepted.{NodeRow, NodesAccepted, nodes_kept}
use Rattle.statements.specs.Statements.{procedure_at, question8}
use Rattle.statements.proofs.Accepted.{StatementRow, statements_kept}
use Rattle.statements.proofs.Bodies.{InBody, in_body}
use Rattle.names.specs.Names.{question9}
use Rattle.names.proofs.Accepted.{NamesKept, names_kept}
use Rattle.typing.specs.Typing.{type_of, question10}
use Rattle.typing.proofs.Accepted.{NodeTyped, node_typed}
use Rattle.rules.specs.Rules.{question11}
use Rattle.rules.proofs.Accepted.{StatementRuled, statements_ruled}
use Rattle.checker.specs.Check.{types_in, fields_in, variables_in, procedures_in, nodes_in, statements_in}
use Rattle.checker.specs.Check.{yes_or_no, table_question, question_of, check_of}
use Rattle.checker.specs.Prepared.{CountsFit}
use Rattle.checker.proofs.Chain.{accepted_all}
use Rattle.checker.proofs.Asking.{counts_fit}

-- questions 4 to 11 of the six tables of an image of a version
pub record AllYes (t f v p n s : List ℕ) : Type 0 where
  pub types : TypesAccepted t f
  pub variables : question5 t v ≡ Ok tt
  pub procedures : question6 v p s ≡ Ok tt
  pub nodes : NodesAccepted types.version t v n
  pub statements : question8 n p s ≡ Ok tt
  pub names : question9 n p s ≡ Ok tt
  pub typing : question10 t f v n ≡ Ok tt
  pub rules : question11 t f v p n s ≡ Ok tt

-- accepted tables, row by row
pub record AcceptedTables (t f v p n s : List ℕ) : Type 0 where
  pub counts : CountsFit t f v p n s
  pub scalars : 3 ≤ rows_of t
  pub first_statement : 1 ≤ rows_of s
  pub questions : AllYes t f v p n s
  pub types : TypesKept t f
  pub variable : (r : ℕ) → r < rows_of v → VariableRow t v r
  pub procedures : ProceduresKept v p s
  pub node : (r : ℕ) → r < rows_of n → NodeRow t v n r
  pub statement : (r : ℕ) → r < rows_of s → StatementRow n p s r
  pub body : (r : ℕ) → r < rows_of s → InBody p s (procedure_at p r) r
  pub names : NamesKept n p s
  pub typed : (r : ℕ) → r < rows_of n → (x : ℕ) × NodeTyped t f v n r x × (type_of t f v n r ≡ Some x)
  pub ruled : (r : ℕ) → r < rows_of s → StatementRuled t f v p n s r

tables_accepted : (t f v p n s : List ℕ) → CountsFit t f v p n s → 3 ≤ rows_of t → 1 ≤ rows_of s → AllYes t f v p n s
    → AcceptedTables t f v p n s
tables_accepted t f v p n s counts scalars first said =
    let kept = procedures_kept v p s said.procedures in
    record {
      counts = counts;
      scalars = scalars;
      first_statement = first;
      questions = said;
      types = types_kept t f said.types;
      variable = variables_kept t v said.variables;
      procedures = kept;
      node = nodes_kept t v n said.nodes;
      statement = statements_kept n p s said.statements;
      body = in_body v p s kept counts.some_procedure;
      names = names_kept n p s said.names;
      typed = node_typed t f v n said.nodes said.typing;
      ruled = λ r h. statements_ruled t f v p n s said.rules r h said.statements;
    }

yes_true : (b : Bool) → yes_or_no b ≡ Ok tt → b ≡ true
unfolding yes_or_no
yes_true true e = refl
yes_true false e = let z : ◌≡◌ {A = ℕ} 0 1 = cc in absurd (omega arith)

module _ (image : List ℕ) where
  header_said : question1 image ≡ true → question2 image ≡ true → question3 image ≡ true → {x : (Result Tables ℕ)} → HeaderCase image x
      → x ≡ Ok (tables_in image)
  header_said a b c (first_no_lem p) = clash (sym a ∙ p)
  header_said a b c (second_no p q) = clash (sym b ∙ q)
  header_said a b c (third_no p q r) = clash (sym c ∙ r)
  header_said a b c (all_yes p q r e) = ap Ok (sym e)

  module _ (accepted : check_of image ≡ Ok tt) where
    each : (q : ℕ) → 1 ≤ q → q < 1 + 11 → question_of image q ≡ Ok tt
    unfolding check_of
    each = (accepted_all (question_of image) 11 1 accepted).each

    header_yes : header_of image ≡ Ok (tables_in image)
    unfolding question_of choose
    header_yes =
        header_said
        (yes_true (question1 image) (each 1 (omega arith) (omega arith)))
        (yes_true (question2 image) (each 2 (omega arith) (omega arith)))
        (yes_true (question3 image) (each 3 (omega arith) (omega arith)))
        (header_case image)

    all_yes_tables : AllYes (types_in image) (fields_in image) (variables_in image) (procedures_in image) (nodes_in image) (statements_in image)
    unfolding question_of table_question choose
    all_yes_tables = record {
      types = record { version = version_of image; passes = each 4 (omega arith) (omega arith) };
      variables = each 5 (omega arith) (omega arith);
      procedures = each 6 (omega arith) (omega arith);
      nodes = record { passes = each 7 (omega arith) (omega arith) };
      statements = each 8 (omega arith) (omega arith);
      names = each 9 (omega arith) (omega arith);
      typing = each 10 (omega arith) (omega arith);
      rules = each 11 (omega arith) (omega arith);
    }

    -- an image that the check accepts
    pub image_accepted :
        AcceptedTables (types_in image) (fields_in image) (variables_in image) (procedures_in image) (nodes_in image) (statements_in image)
    image_accepted =
        let fits = header_fits image (tables_in image) header_yes in
        let least = fits.types.least in
        let three = three_rows (version_of image) in
        tables_accepted (types_in image) (fields_in image) (variables_in image) (procedures_in image) (nodes_in image) (statements_in image)
        (counts_fit image header_yes) (omega arith) fits.statements.least all_yes_tables

    -- and the tables that it has
    pub accepted_header : header_of image ≡ Ok (tables_in image)
    accepted_header = header_yes
