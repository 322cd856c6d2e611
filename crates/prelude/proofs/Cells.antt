-- Laws of cells that are written one after the other.
use mathlib.Core.Path.{◌≡◌, refl, ◌∙◌}
use mathlib.Core.List.{List}
use Prim.Native.Nat.{ℕ, suc, ◌+◌, ◌<◌}
use native.Mathlib.Omega.{arith}
use native.Mathlib.Decide.{dec_lt}
use lib.ListN.{length, get_or, set, length-set}
use lib.Seq.{get_or-set_same, get_or-set_other}
use Rattle.prelude.specs.Cells.{Filled}

pub filled_none : (from : ℕ) (g : ℕ → ℕ) (old : List ℕ) → Filled from 0 g old old
filled_none from g old =
    record { cells = refl; cell = λ j h. absurd (omega arith); below = λ i h. refl; above = λ i h. refl }

-- one cell more
pub filled_next : (from n : ℕ) (g : ℕ → ℕ) (old table : List ℕ) (i x : ℕ) → Filled from n g old table
    → i ≡ from + n → i < length table → x ≡ g n → Filled from (suc n) g old (set table i x)
filled_next from n g old table i x filled at room e = record {
  cells = length-set table i x ∙ filled.cells;
  cell = λ j h. go j (dec_lt j n) h;
  below = λ k h. get_or-set_other table i k x 0 (omega arith) ∙ filled.below k h;
  above = λ k h. get_or-set_other table i k x 0 (omega arith) ∙ filled.above k (omega arith);
}
  where
    go : (j : ℕ) → Dec (j < n) → j < suc n → get_or (set table i x) (from + j) 0 ≡ g j
    go j (yes l) h = get_or-set_other table i (from + j) x 0 (omega arith) ∙ filled.cell j l
    go j (no l) h =
        let q : n ≡ j = omega arith in
        let here : from + j ≡ i = omega arith in
        rw here (get_or-set_same table i x 0 room ∙ rw q at e)

-- cells from the first on
pub filled_at : {n : ℕ} {g : ℕ → ℕ} {old table : List ℕ} → Filled 0 n g old table → (j : ℕ) → j < n → get_or table j 0 ≡ g j
filled_at filled j h = let q : 0 + j ≡ j = omega arith in rw q at (filled.cell j h)
