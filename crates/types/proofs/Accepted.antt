-- What question 4 says of an accepted table.
use mathlib.Core.Path.{◌≡◌}
use mathlib.Core.List.{List}
use mathlib.Core.Bool.{true}
use Prim.Native.Nat.{ℕ, ◌≤◌, ◌<◌}
use native.Mathlib.Omega.{arith}
use borrow.Author.Tests.{eqb-true}
use Rattle.prelude.proofs.Choice.{also_true}
use Rattle.image.specs.Rows.{row_at, rows_of}
use Rattle.image.specs.Versions.{scalar_rows}
use Rattle.image.proofs.Faults.{up_to_kept}
use Rattle.shapes.specs.Forms.{form, NO_KIND, kind_in}
use Rattle.shapes.specs.Shapes.{used_below, shape_kept, type_kept}
use Rattle.shapes.proofs.Accepted.{TypesKept, row_kept, scalar_shaped, later_shaped}
use Rattle.shapes.proofs.Singles.{no_scalar}
use Rattle.types.specs.Question.{question4, TypesAccepted}

-- a table that question 4 accepts
pub types_kept : (t f : List ℕ) → TypesAccepted t f → TypesKept t f
unfolding question4
types_kept t f accepted =
    let (kept, all) = up_to_kept (type_kept accepted.version t f) (rows_of t) _ accepted.passes in
    record {
      row = λ r h. row_kept accepted.version t f r (kept.each r (omega arith) h);
      claimed = eqb-true _ _ all;
    }

module _ (t f : List ℕ) (accepted : TypesAccepted t f) (r : ℕ) (low : r < rows_of t) where
  row_shaped : shape_kept accepted.version t f (used_below t r) r (row_at t r) ≡ true
  unfolding question4 type_kept
  row_shaped =
      let (kept, all) = up_to_kept (type_kept accepted.version t f) (rows_of t) _ accepted.passes in
      (also_true _ _ (kept.each r (omega arith) low)).0

  -- "Rows 0, 1, 2 are kinds 0 BOOLEAN, 1 INTEGER, 2 SET."
  pub scalar_row : r < scalar_rows accepted.version → kind_in t r ≡ r
  unfolding kind_in form
  scalar_row scalar = scalar_shaped accepted.version t f (used_below t r) r (row_at t r) row_shaped scalar

  -- and no later row is a single cell's
  pub later_row : scalar_rows accepted.version ≤ r → kind_in t r ≡ NO_KIND
  unfolding kind_in form
  later_row later =
      no_scalar (row_at t r) (later_shaped accepted.version t f (used_below t r) r (row_at t r) row_shaped later)
