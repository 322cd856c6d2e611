-- Laws of the cells of variables that stand in a row.
use mathlib.Core.Path.{◌≡◌, refl, ap}
use mathlib.Core.Bool.{Bool, true, false}
use mathlib.Core.List.{List}
use Prim.Native.Nat.{ℕ, zero, suc, ◌+◌, ◌*◌, ◌≤◌, ◌<◌}
use native.Mathlib.Omega.{arith}
use native.Mathlib.Decide.{dec_le}
use borrow.Author.Tests.{eq-eqb, ne_eqb}
use lib.Dec.{eqb}
use Rattle.prelude.specs.Choice.{choose}
use Rattle.prelude.proofs.Choice.{choose_yes, choose_no}
use Rattle.image.specs.Rows.{row_at}
use Rattle.places.specs.Places.{width_by, room_by}

-- ---- one variable

pub width_var : (size : ℕ → ℕ) (v : List ℕ) (k : ℕ) → (row_at v k).kind ≡ 3 → width_by size v k ≡ 2
unfolding width_by
width_var size v k e = choose_yes _ _ _ (eq-eqb (row_at v k).kind 3 e)

pub width_other : (size : ℕ → ℕ) (v : List ℕ) (k : ℕ) → ((row_at v k).kind ≡ 3 → ⊥)
    → width_by size v k ≡ size (row_at v k).a
unfolding width_by
width_other size v k e = choose_no _ _ _ (ne_eqb (row_at v k).kind 3 e)

pub width_agree : (g h : ℕ → ℕ) (v : List ℕ) (k : ℕ) → g (row_at v k).a ≡ h (row_at v k).a
    → width_by g v k ≡ width_by h v k
unfolding width_by
width_agree g h v k e = ap (λ n. choose (eqb (row_at v k).kind 3) 2 n) e

pub width_small : (size : ℕ → ℕ) (v : List ℕ) (k : ℕ) → size (row_at v k).a ≤ 4096 → width_by size v k ≤ 4096
unfolding width_by choose
width_small size v k small = go (eqb (row_at v k).kind 3)
  where
    go : (var : Bool) → choose var 2 (size (row_at v k).a) ≤ 4096
    go true = omega arith
    go false = small

-- ---- several

-- the room of m variables and of n behind them
pub room_both : (size : ℕ → ℕ) (v : List ℕ) (k m n : ℕ)
    → room_by size v k (m + n) ≡ room_by size v k m + room_by size v (k + m) n
unfolding room_by
room_both size v k m zero = let none : m + 0 ≡ m = omega arith in rw none (omega arith)
room_both size v k m (suc n) =
    let more : m + suc n ≡ suc (m + n) = omega arith in
    let row : k + (m + n) ≡ k + m + n = omega arith in
    rw (more, row) (omega (arith, room_both size v k m n))

pub room_agree : (g h : ℕ → ℕ) (v : List ℕ) (k n : ℕ)
    → ((j : ℕ) → k ≤ j → j < k + n → g (row_at v j).a ≡ h (row_at v j).a)
    → room_by g v k n ≡ room_by h v k n
unfolding room_by
room_agree g h v k zero same = refl
room_agree g h v k (suc n) same =
    let before = room_agree g h v k n (λ j low high. same j low (omega arith)) in
    let last = width_agree g h v (k + n) (same (k + n) (omega arith) (omega arith)) in
    rw (before, last)

module _ (size : ℕ → ℕ) (v : List ℕ) (k : ℕ) where
  pub room_more : (n : ℕ) → room_by size v k (suc n) ≡ room_by size v k n + width_by size v (k + n)
  unfolding room_by
  room_more n = refl

  pub room_grows : (m n : ℕ) → m ≤ n → room_by size v k m ≤ room_by size v k n
  room_grows m zero h = let z : m ≡ 0 = omega arith in rw z (omega arith)
  room_grows m (suc n) h = go (dec_le m n) (room_grows m n)
    where
      go : Dec (m ≤ n) → (m ≤ n → room_by size v k m ≤ room_by size v k n) → room_by size v k m ≤ room_by size v k (suc n)
      go (yes l) rest = omega (arith, rest l, room_more n)
      go (no l) rest = let q : m ≡ suc n = omega arith in rw q (omega arith)

  -- a variable ends before the room of those after it: variables do not overlap, and the last ends within the room
  pub room_up : (j n : ℕ) → j < n → room_by size v k j + width_by size v (k + j) ≤ room_by size v k n
  room_up j n h = omega (arith, room_more j, room_grows (suc j) n h)

  pub room_small : (n : ℕ) → ((j : ℕ) → k ≤ j → j < k + n → width_by size v j ≤ 4096) → room_by size v k n ≤ n * 4096
  unfolding room_by
  room_small zero h = omega arith
  room_small (suc n) h =
      let before = room_small n (λ j low high. h j low (omega arith)) in
      let last = h (k + n) (omega arith) (omega arith) in
      omega (arith, before, last)
