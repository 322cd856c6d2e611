-- What the check answers, without an order of asking: the rule of a row that each question has, and the rows at fault.
use Rattle.std.specs.Prelude.{ℕ, ◌+◌, ◌≤◌, ◌<◌, ◌≡◌, Bool, true, List, eqb}
use Rattle.prelude.specs.Choice.{choose}
use Rattle.image.specs.Rows.{rows_of}
use Rattle.image.specs.Faults.{rule_up_to, Lowest}
use Rattle.header.specs.Header.{version_of, question1, question2, question3}
use Rattle.shapes.specs.Shapes.{used_below, type_kept}
use Rattle.frames.specs.Variables.{variable_kept}
use Rattle.frames.specs.Procedures.{first_variable, procedure_kept}
use Rattle.nodes.specs.Nodes.{node_kept}
use Rattle.statements.specs.Statements.{statement_kept}
use Rattle.names.specs.Names.{named_once, names_in}
use Rattle.typing.specs.Typing.{type_of, has_type}
use Rattle.rules.specs.Rules.{statement_rule}
use Rattle.checker.specs.Check.{types_in, fields_in, variables_in, procedures_in, nodes_in, statements_in}

-- "Questions of the check": whether row r keeps the rule that question q asks. 1 to 3 ask of the whole image, and so
-- of row 0 alone: "the row is the lowest at fault, 0 for 1 to 3". The row behind the last type says whether every field
-- is claimed, "(Unclaimed field: row = type count.)", and the row behind the last procedure whether every variable is,
-- "(.. Unclaimed variable: row = procedure count.)".
unfoldable pub rule_of : List ℕ → ℕ → ℕ → Bool
rule_of image q r =
    let version : ℕ = version_of image in
    let t : List ℕ = types_in image in
    let f : List ℕ = fields_in image in
    let v : List ℕ = variables_in image in
    let p : List ℕ = procedures_in image in
    let n : List ℕ = nodes_in image in
    let s : List ℕ = statements_in image in
    choose (eqb q 1) (question1 image)
    (choose (eqb q 2) (question2 image)
    (choose (eqb q 3) (question3 image)
    (choose (eqb q 4) (rule_up_to (type_kept version t f) (rows_of t) (eqb (used_below t (rows_of t)) (rows_of f)) r)
    (choose (eqb q 5) (variable_kept t v r)
    (choose (eqb q 6) (rule_up_to (procedure_kept v p s) (rows_of p) (eqb (first_variable v p (rows_of p)) (rows_of v)) r)
    (choose (eqb q 7) (node_kept version (rows_of t) (rows_of v) n r)
    (choose (eqb q 8) (statement_kept n p s r)
    (choose (eqb q 9) (named_once (names_in n p s) r)
    (choose (eqb q 10) (has_type (type_of t f v n r)) (statement_rule t v p n s (type_of t f v n) r))))))))))

-- of how many rows question q asks: "each type row", "each variable row", "each procedure row", "each node", "each
-- statement"; one row more than types and procedures, for what is unclaimed
unfoldable pub rows_asked : List ℕ → ℕ → ℕ
rows_asked image q =
    choose (eqb q 1) 1
    (choose (eqb q 2) 1
    (choose (eqb q 3) 1
    (choose (eqb q 4) (rows_of (types_in image) + 1)
    (choose (eqb q 5) (rows_of (variables_in image))
    (choose (eqb q 6) (rows_of (procedures_in image) + 1)
    (choose (eqb q 7) (rows_of (nodes_in image))
    (choose (eqb q 8) (rows_of (statements_in image))
    (choose (eqb q 9) (rows_of (nodes_in image))
    (choose (eqb q 10) (rows_of (nodes_in image)) (rows_of (statements_in image)))))))))))

-- no question says "no": no row is at fault in any of the eleven. "Refusal 0, row 0 is acceptance"
pub record Faultless (image : List ℕ) : Type 0 where
  pub each : (q : ℕ) → 1 ≤ q → q ≤ 11 → (r : ℕ) → r < rows_asked image q → rule_of image q r ≡ true

-- "The first 'no' decides; the row is the lowest at fault, 0 for 1 to 3.": question q is the first with a row at
-- fault, and the row is its lowest
pub record FirstAtFault (image : List ℕ) (q row : ℕ) : Type 0 where
  pub least : 1 ≤ q
  pub most : q ≤ 11
  pub lowest : Lowest (rule_of image q) (rows_asked image q) row
  pub before : (i : ℕ) → 1 ≤ i → i < q → (r : ℕ) → r < rows_asked image i → rule_of image i r ≡ true
