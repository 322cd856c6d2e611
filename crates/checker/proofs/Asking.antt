-- Laws of the functions that ask the questions.
use Rattle.std.specs.Prelude.{Result, Err, Ok}
use Rattle.checker.specs.declared.Refusal.{Refusal}
use Rattle.checker.specs.Check.{refused_at, CheckAnswer}
use Rattle.image.specs.Faults.{Verdict}
use mathlib.Core.Path.{◌≡◌, refl, ◌∙◌, ap}
use mathlib.Core.List.{List}
use Prim.Native.Nat.{ℕ, ◌+◌, ◌*◌, ◌≤◌}
use native.Mathlib.Omega.{arith}
use lib.ListN.{length, take, replicate, length-replicate}
use Rattle.image.specs.Rows.{rows_of}
use Rattle.statements.specs.Runs.{RunsIn}
use Rattle.typing.specs.Typing.{type_of, question10, type_in, passed, Typed}
use Rattle.typing.proofs.Passing.{types_known}
use Rattle.rules.specs.Rules.{rules_by, question11}
use Rattle.prelude.specs.Choice.{choose}
use Rattle.prelude.specs.Cells.{Filled}
use mathlib.Core.Bool.{Bool, true}
use Rattle.header.specs.declared.Tables.{Tables}
use Rattle.header.specs.Header.{version_of, question1, question2, question3, tables_in, header_of, part_of}
use Rattle.header.proofs.Fitting.{header_fits, HeaderCase, HeaderCase.first_no_lem, HeaderCase.second_no, HeaderCase.third_no}
use Rattle.header.proofs.Fitting.{HeaderCase.all_yes, header_case}
use Rattle.sizes.specs.Cells.{BOUNDS}
use Rattle.types.specs.Question.{question4, TypesAccepted}
use Rattle.types.specs.Plan.{Plan, Rest, passed as passed_types}
use Rattle.places.specs.Places.{Places}
use Rattle.places.specs.Filling.{PlacesFit}
use Rattle.places.proofs.Owning.{claims_kept}
use Rattle.checker.specs.Check.{types_in, fields_in, variables_in, procedures_in, nodes_in, statements_in}
use Rattle.checker.specs.Check.{yes_or_no, table_question, question_of, first_no, check_of, refusal_of, row_of, number_of}
use Rattle.checker.specs.Prepared.{CountsFit, Leaves, Leaves.whole, Leaves.some}
use Rattle.checker.specs.Prepared.{bound_of, Prepared, Prepared.refused, Prepared.prepared}
use Rattle.checker.proofs.Chain.{accepted_all, chain_next, chain_stop}

-- ---- the lent table, a number for each node

pub zeros : (n : ℕ) → length {A = ℕ} (replicate n 0) ≡ n
zeros n = length-replicate {A = ℕ} n 0

-- question 8 leaves it as long as it was
pub runs_room : (n runs : List ℕ) (m : ℕ) → RunsIn n (replicate m 0) runs → rows_of n ≤ m → rows_of n ≤ length runs
runs_room n runs m table few = rw (table.cells ∙ zeros m) few

-- question 10 fills it with the types
module _ (t f v n old types : List ℕ) (x : Verdict) (table : Typed (type_of t f v n) (passed n x) old types) where
  pub types_left : x ≡ question10 t f v n → Typed (type_of t f v n) (passed n (question10 t f v n)) old types
  types_left asked = rw asked at table

  module _ (room : rows_of n ≤ length old) where
    pub types_room : rows_of n ≤ length types
    types_room = let e = table.cells in omega arith

    pub types_all : x ≡ Ok tt → type_in (take (rows_of n) types) ≡ type_of t f v n
    unfolding passed
    types_all kept = types_known t f v n old types (rw kept at table) types_room

    pub rules_all : (p s : List ℕ) → x ≡ Ok tt → rules_by t v p n s (type_in (take (rows_of n) types)) ≡ question11 t f v p n s
    unfolding question11
    rules_all p s kept = ap (rules_by t v p n s) (types_all kept)

-- ---- what is left in the plan

pub places_fit : (version : ℕ) (t f v p n s plan : List ℕ) → CountsFit t f v p n s → BOUNDS ≤ length plan
    → TypesAccepted t f → first_no (table_question version t f v p n s) 5 7 ≡ Ok tt
    → Plan t f (rows_of t) plan → PlacesFit t f v p plan
unfolding table_question choose
places_fit version t f v p n s plan fit cells four accepted planned =
    let all = accepted_all (table_question version t f v p n s) 7 5 accepted in
    record {
      cells = cells;
      few_types = fit.types;
      few_variables = fit.variables;
      few_procedures = fit.procedures;
      types = four;
      variables = all.each 5 (omega arith) (omega arith);
      claims = claims_kept v p s (all.each 6 (omega arith) (omega arith));
      planned = planned;
    }

module _ (version : ℕ) (t f old plan : List ℕ) (y : Verdict) (four : y ≡ question4 version t f)
    (planned : Plan t f (passed_types t y) plan) (rest : Rest t (passed_types t y) old plan) where
  pub plan_all : y ≡ Ok tt → Plan t f (rows_of t) plan
  unfolding passed_types
  plan_all kept = rw kept at planned

  rest_all : y ≡ Ok tt → Rest t (rows_of t) old plan
  unfolding passed_types
  rest_all kept = rw kept at rest

  pub leaves_some : (v p : List ℕ) (x : CheckAnswer) {r : Refusal} → x ≡ Err r → Leaves version t f v p old x plan
  leaves_some v p x e = rw e (some (rw four at planned) (rw four at rest))

  pub leaves_whole : (v p new : List ℕ) → y ≡ Ok tt → Places t f v p plan new → Leaves version t f v p old (Ok tt) new
  leaves_whole v p new kept places =
      whole (record { typed = plan; planned = plan_all kept; rest = rest_all kept; places = places })

-- ---- questions 1 to 3

module _ (image : List ℕ) where
  first_is : {b : Bool} → question1 image ≡ b → question_of image 1 ≡ yes_or_no b
  unfolding question_of choose
  first_is e = ap yes_or_no e

  second_is : {b : Bool} → question2 image ≡ b → question_of image 2 ≡ yes_or_no b
  unfolding question_of choose
  second_is e = ap yes_or_no e

  third_is : {b : Bool} → question3 image ≡ b → question_of image 3 ≡ yes_or_no b
  unfolding question_of choose
  third_is e = ap yes_or_no e

  no_case : {x : (Result Tables ℕ)} {q : ℕ} → HeaderCase image x → x ≡ Err q → check_of image ≡ Err (refused_at q 0)
  unfolding check_of yes_or_no
  no_case {q = q} (first_no_lem a) e =
      let n : 1 ≡ q = cc in
      rw (← n) (chain_stop (question_of image) 1 10 refl (first_is a))
  no_case {q = q} (second_no a b) e =
      let n : 2 ≡ q = cc in
      rw (← n) (chain_next (question_of image) 1 10 refl (first_is a) ∙ chain_stop (question_of image) 2 9 refl (second_is b))
  no_case {q = q} (third_no a b c) e =
      let n : 3 ≡ q = cc in
      rw (← n)
      (chain_next (question_of image) 1 10 refl (first_is a)
      ∙ chain_next (question_of image) 2 9 refl (second_is b)
      ∙ chain_stop (question_of image) 3 8 refl (third_is c))
  no_case (all_yes a b c d) e = let z : ◌≡◌ {A = ℕ} 0 1 = cc in absurd (omega arith)

  pub header_no : {q : ℕ} → header_of image ≡ Err q → check_of image ≡ Err (refused_at q 0)
  header_no e = no_case (header_case image) e

  -- the tables' questions are left
  tables_left : question1 image ≡ true → question2 image ≡ true → question3 image ≡ true
      → check_of image
      ≡ first_no (table_question (version_of image) (types_in image) (fields_in image) (variables_in image)
      (procedures_in image) (nodes_in image) (statements_in image)) 4 8
  unfolding check_of yes_or_no first_no question_of table_question choose
  tables_left a b c =
      chain_next (question_of image) 1 10 refl (first_is a)
      ∙ chain_next (question_of image) 2 9 refl (second_is b)
      ∙ chain_next (question_of image) 3 8 refl (third_is c)

  yes_case : {x : (Result Tables ℕ)} {ts : Tables} → HeaderCase image x → x ≡ Ok ts
      → (tables_in image ≡ ts) × (question1 image ≡ true) × (question2 image ≡ true) × (question3 image ≡ true)
  yes_case (first_no_lem a) e = let z : ◌≡◌ {A = ℕ} 0 1 = cc in absurd (omega arith)
  yes_case (second_no a b) e = let z : ◌≡◌ {A = ℕ} 0 1 = cc in absurd (omega arith)
  yes_case (third_no a b c) e = let z : ◌≡◌ {A = ℕ} 0 1 = cc in absurd (omega arith)
  yes_case {ts = ts} (all_yes {ts = found} a b c d) e = let same : found ≡ ts = cc in (d ∙ same, a, b, c)

  module _ {ts : Tables} (yes : header_of image ≡ Ok ts) where
    pub header_tables : tables_in image ≡ ts
    header_tables = (yes_case (header_case image) yes).0

    pub counts_fit : CountsFit (part_of image ts.types) (part_of image ts.fields) (part_of image ts.variables)
        (part_of image ts.procedures) (part_of image ts.nodes) (part_of image ts.statements)
    counts_fit =
        let fits = header_fits image ts yes in
        record {
          types = fits.types.most;
          fields = fits.fields.most;
          variables = fits.variables.most;
          some_procedure = fits.procedures.least;
          procedures = fits.procedures.most;
          nodes = fits.nodes.most;
          statements = fits.statements.most;
        }

    pub header_yes : check_of image
        ≡ first_no (table_question (version_of image) (part_of image ts.types) (part_of image ts.fields)
        (part_of image ts.variables) (part_of image ts.procedures) (part_of image ts.nodes) (part_of image ts.statements)) 4 8
    header_yes = let (same, a, b, c) = yes_case (header_case image) yes in rw (← same) (tables_left a b c)

    -- where a table's question refuses
    pub prepared_no : (old plan : List ℕ) (x : CheckAnswer) {r : Refusal} → x ≡ Err r
        → Leaves (version_of image) (part_of image ts.types) (part_of image ts.fields) (part_of image ts.variables)
        (part_of image ts.procedures) old x plan
        → Prepared image old x plan
    prepared_no old plan x {r} e left =
        rw e (refused {x = r} {plan = plan} (rw (header_tables, ← e) left))

    -- with acceptance
    pub prepared_yes : (old between plan : List ℕ) (x : CheckAnswer) → x ≡ Ok tt
        → Leaves (version_of image) (part_of image ts.types) (part_of image ts.fields) (part_of image ts.variables)
        (part_of image ts.procedures) old x between
        → Filled BOUNDS 12 (bound_of ts) between plan → Prepared image old (Ok tt) plan
    prepared_yes old between plan x e left filled =
        prepared {between = between} {plan = plan} (rw (header_tables, ← e) left) (rw header_tables filled)

-- ---- the number

pub number_accepted : (x : CheckAnswer) → x ≡ Ok tt → number_of x ≡ 0
unfolding number_of refusal_of row_of
number_accepted x e = rw e

pub number_refused : (x : CheckAnswer) {r : Refusal} → x ≡ Err r → number_of x ≡ r.question * 65536 + r.row
unfolding number_of refusal_of row_of
number_refused x e = rw e
