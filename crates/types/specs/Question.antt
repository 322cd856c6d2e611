-- Question 4: does each type row, with its own fields, keep its rule?
use Rattle.std.specs.Prelude.{Ok, ℕ, ◌+◌, ◌≡◌, List, eqb}
use Rattle.image.specs.Faults.{Verdict, lowest_fault, rule_up_to}
use Rattle.image.specs.Rows.{rows_of}
use Rattle.shapes.specs.Shapes.{used_below, type_kept}

-- "4. Does each type row, with its own fields, keep its rule? (Unclaimed field: row = type count.)"
unfoldable pub question4 : ℕ → List ℕ → List ℕ → Verdict
question4 version t f =
    lowest_fault (rule_up_to (type_kept version t f) (rows_of t) (eqb (used_below t (rows_of t)) (rows_of f))) (rows_of t + 1)

-- it accepts the types of an image of some version
pub record TypesAccepted (t f : List ℕ) : Type 0 where
  pub version : ℕ
  pub passes : question4 version t f ≡ Ok tt
