-- Laws of the loop that writes the places of own fields.
use mathlib.Core.Path.{◌≡◌, ◌∙◌}
use mathlib.Core.List.{List, map}
use Prim.Native.Nat.{ℕ, suc, ◌+◌, ◌-◌, ◌≤◌, ◌<◌}
use native.Mathlib.Omega.{arith}
use lib.ListN.{length, get_or, set}
use Rattle.prelude.specs.Parts.{sum}
use Rattle.prelude.proofs.Cells.{filled_none, filled_next}
use Rattle.image.specs.Rows.{row_at}
use Rattle.shapes.specs.Forms.{own_types}
use Rattle.shapes.proofs.Rows.{sum_more, sum_up}
use Rattle.sizes.specs.Cells.{OFFSETS}
use Rattle.types.specs.Filling.{OffsetsFit, Offsets}

module _ (f : List ℕ) (k at : ℕ) (old : List ℕ) where
  abbrev held : ℕ → ℕ
  held r = get_or old r 0

  abbrev places : ℕ → ℕ
  places j = at + sum (map held (own_types f k j))

  pub offsets_none : Offsets f k 0 at old old
  offsets_none = filled_none (OFFSETS + k) places old

  -- one place more, at field row i
  pub offsets_next : (i place : ℕ) (plan : List ℕ) → k ≤ i → Offsets f k (i - k) at old plan → OFFSETS + i < length plan
      → place ≡ at + sum (map held (own_types f k (i - k)))
      → Offsets f k (i + 1 - k) at old (set plan (OFFSETS + i) place)
  offsets_next i place plan low o room e =
      let one : i + 1 - k ≡ suc (i - k) = omega arith in
      rw one (filled_next (OFFSETS + k) (i - k) places old plan (OFFSETS + i) place o (omega arith) room e)

-- what a turn of the loop has: room for the place, and the next place, which is small
pub record Turn (f : List ℕ) (k at : ℕ) (old : List ℕ) (i place size : ℕ) (plan : List ℕ) : Type 0 where
  pub room : OFFSETS + i < length plan
  pub next : place + size ≡ at + sum (map (λ r. get_or old r 0) (own_types f k (i + 1 - k)))
  pub small : place + size ≤ 4096

pub at_turn : (f : List ℕ) (k n at : ℕ) (old : List ℕ) (i place size : ℕ) (plan : List ℕ) → OffsetsFit f old k n at → k ≤ i → i < k + n
    → Offsets f k (i - k) at old plan → place ≡ at + sum (map (λ r. get_or old r 0) (own_types f k (i - k)))
    → size ≡ get_or plan (row_at f i).a 0 → Turn f k at old i place size plan
at_turn f k n at old i place size plan fit low high o e s =
    let g : ℕ → ℕ = λ r. get_or old r 0 in
    let typed = fit.low i low high in
    let size_is : size ≡ g (row_at f i).a = s ∙ o.below (row_at f i).a (omega arith) in
    let count : i + 1 - k ≡ suc (i - k) = omega arith in
    let here : k + (i - k) ≡ i = omega arith in
    let more = rw here at (sum_more f g (i - k) k) in
    let up = sum_up f g (suc (i - k)) n k (omega arith) in
    let next : place + size ≡ at + sum (map g (own_types f k (suc (i - k)))) = omega (arith, more, e, size_is) in
    let same = o.cells in
    let fits = fit.cells in
    let whole = fit.total in
    record { room = omega arith; next = rw count next; small = omega (arith, next, up, whole) }
