-- Laws of the loop that writes the places of variables that stand in a row.
use mathlib.Core.Path.{◌≡◌, ◌∙◌}
use mathlib.Core.List.{List}
use Prim.Native.Nat.{ℕ, suc, ◌+◌, ◌≤◌, ◌<◌}
use native.Mathlib.Omega.{arith}
use lib.ListN.{length, set}
use Rattle.image.specs.Rows.{row_at, rows_of}
use Rattle.places.specs.Places.{width_by, room_by}
use Rattle.places.specs.Filling.{held, VariablesFit}
use Rattle.prelude.specs.Cells.{Filled}
use Rattle.prelude.proofs.Cells.{filled_none, filled_next}
use Rattle.sizes.specs.Cells.{PLACES}
use Rattle.places.proofs.Rooms.{width_small, width_agree, room_more, room_small}

-- the places of j variables are written
pub record Run (v old plan : List ℕ) (k n at place j : ℕ) : Type 0 where
  pub within : j ≤ n
  pub next : place ≡ at + room_by (held old) v k j
  pub filled : Filled (PLACES + k) j (λ i. at + room_by (held old) v k i) old plan

pub run_none : (v old : List ℕ) (k n at : ℕ) → Run v old old k n at at 0
unfolding room_by
run_none v old k n at = record {
  within = omega arith;
  next = omega arith;
  filled = filled_none (PLACES + k) (λ i. at + room_by (held old) v k i) old;
}

width_fits : (v plan : List ℕ) → VariablesFit v plan → (k : ℕ) → k < rows_of v → width_by (held plan) v k ≤ 4096
width_fits v plan fit k h = width_small (held plan) v k (fit.small k h)

module _ (v old plan : List ℕ) (k n at place j : ℕ) (fit : VariablesFit v old) (rows : k + n ≤ rows_of v)
    (r : Run v old plan k n at place j) (more : j < n) where
  pub run_room : PLACES + (k + j) < length plan
  run_room = let cells = fit.cells in let few = fit.few in let same = r.filled.cells in omega arith

  module _ (width : ℕ) (this : width ≡ width_by (held plan) v (k + j)) where
    pub run_next : Run v old (set plan (PLACES + (k + j)) place) k n at (place + width) (j + 1)
    run_next =
        let one : j + 1 ≡ suc j = omega arith in
        let low = fit.low (k + j) (omega arith) in
        let below = r.filled.below (row_at v (k + j)).a (omega arith) in
        let same = this ∙ width_agree (held plan) (held old) v (k + j) below in
        record {
          within = omega arith;
          next = rw one (omega (arith, r.next, same, room_more (held old) v k j));
          filled = rw one (filled_next (PLACES + k) j (λ i. at + room_by (held old) v k i) old plan (PLACES + (k + j))
              place r.filled (omega arith) run_room r.next);
        }

    pub run_small : at ≤ 3 → place + width ≤ 1048579
    run_small little =
        let next = run_next.next in
        let few = fit.few in
        let total = room_small (held old) v k (j + 1) (λ i low high. width_fits v old fit i (omega arith)) in
        omega (arith, next, total)
