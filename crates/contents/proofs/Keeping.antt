-- Laws of cells that hold values of their kinds: of one kind, and of kinds that follow others.
use mathlib.Core.Path.{◌≡◌, refl, sym, ◌∙◌}
use mathlib.Core.Bool.{Bool, true, false}
use mathlib.Core.List.{List, [], ◌∷◌, ◌++◌}
use Prim.Native.Nat.{ℕ, zero, suc, ◌+◌, ◌-◌, ◌≤◌, ◌<◌}
use native.Mathlib.Numerals.{add-one}
use native.Mathlib.Omega.{arith}
use borrow.Author.Tests.{ltb-true, ltb-false, ne_eqb}
use lib.IntN.{ℤ, pos, negsuc}
use lib.ListN.{length, get_or, take, drop, replicate, length-drop}
use lib.Seq.{drop-cons, drop-drop, length-take-le, get_or-take, get_or-drop}
use lib.Signed.{lt_z}
use mir.Syntax.{w64}
use mir.Val.{SFits, to_z, of_z}
use Rattle.prelude.specs.Choice.{choose, ◌also◌}
use Rattle.prelude.proofs.Choice.{clash}
use Rattle.values.specs.Values.{cell_of, boolean_cell, integer_cell, is_integer}
use Rattle.values.proofs.Numbers.{plain64, set_neg, set_large, set_is}
use Rattle.asking.specs.State.{is_value, values_kept}
use Rattle.contents.specs.Kinds.{lowest, highest}

-- ---- a cell

-- a test of two numbers by their bits
pub compared : (x y : ℤ) {b : Bool} → SFits w64 x → SFits w64 y → lt_z (to_z w64 (of_z w64 x)) (to_z w64 (of_z w64 y)) ≡ b
    → lt_z x y ≡ b
compared x y p q e = rw (plain64 x p, plain64 y q) at e

-- a number below the kind's lowest is no value
pub too_low : (k : ℕ) (z : ℤ) → k < 3 → lt_z z (lowest k) ≡ true → is_value (cell_of k z) ≡ false
unfolding lowest cell_of boolean_cell integer_cell is_integer is_value choose
too_low zero (pos n) low h = absurd (omega (arith, ltb-true))
too_low zero (negsuc n) low h = refl
too_low (suc zero) z low h = rw h
too_low (suc (suc zero)) z low h = rw (set_neg z h)
too_low (suc (suc (suc k))) z low h = absurd (omega arith)

-- nor is one above its highest
pub too_high : (k : ℕ) (z : ℤ) → k < 3 → lt_z z (lowest k) ≡ false → lt_z (highest k) z ≡ true → is_value (cell_of k z) ≡ false
unfolding lowest highest cell_of boolean_cell integer_cell is_integer is_value choose
too_high zero (pos zero) low h more = absurd (omega (arith, ltb-true))
too_high zero (pos (suc zero)) low h more = absurd (omega (arith, ltb-true))
too_high zero (pos (suc (suc n))) low h more =
    rw (ne_eqb (suc (suc n)) 0 (omega arith), ne_eqb (suc (suc n)) 1 (omega arith))
too_high zero (negsuc n) low h more = refl
too_high (suc zero) z low h more = rw (h, more)
too_high (suc (suc zero)) z low h more = rw (set_large z more)
too_high (suc (suc (suc k))) z low h more = absurd (omega arith)

pub in_range : (k : ℕ) (z : ℤ) → k < 3 → lt_z z (lowest k) ≡ false → lt_z (highest k) z ≡ false → is_value (cell_of k z) ≡ true
unfolding lowest highest cell_of boolean_cell integer_cell is_integer is_value choose
in_range zero (pos zero) low h most = refl
in_range zero (pos (suc zero)) low h most = refl
in_range zero (pos (suc (suc n))) low h most = absurd (omega (arith, ltb-false))
in_range zero (negsuc n) low h most = clash h
in_range (suc zero) z low h most = rw (h, most)
in_range (suc (suc zero)) z low h most = rw (set_is z h most)
in_range (suc (suc (suc k))) z low h most = absurd (omega arith)

-- ---- a run of cells, at address `at` of those below `end`

module _ (k : ℕ) (store : List ℤ) (at end : ℕ) where
  pub run_step : at < end → end ≤ length store → values_kept (replicate (end - at) k) (drop at store)
      ≡ (is_value (cell_of k (get_or store at (pos 0))) also values_kept (replicate (end - (at + 1)) k) (drop (at + 1) store))
  unfolding values_kept
  run_step h room =
      let one : end - at ≡ suc (end - (at + 1)) = omega arith in
      rw (one, drop-cons store at (pos 0) (omega arith), add-one at)

  pub run_end : end ≤ at → values_kept (replicate (end - at) k) (drop at store) ≡ true
  unfolding values_kept
  run_end h = let none : end - at ≡ 0 = omega arith in rw none

-- ---- kinds that follow others

also_assoc : (a b c : Bool) → ((a also b) also c) ≡ (a also b also c)
unfolding ◌also◌
also_assoc true b c = refl
also_assoc false b c = refl

kept_append : (a b : List ℕ) (l : List ℤ) → values_kept (a ++ b) l ≡ (values_kept a l also values_kept b (drop (length a) l))
unfolding values_kept ◌also◌
kept_append [] b l = refl
kept_append (k ∷ a) b [] = refl
kept_append (k ∷ a) b (z ∷ l) = rw (kept_append a b l) (sym (also_assoc (is_value (cell_of k z)) _ _))

-- the same at an address
pub kept_then : (a b : List ℕ) (store : List ℤ) (at size : ℕ) → length a ≡ size
    → values_kept (a ++ b) (drop at store) ≡ (values_kept a (drop at store) also values_kept b (drop (at + size) store))
kept_then a b store at size e = kept_append a b (drop at store) ∙ rw (e, drop-drop size at store)

-- ---- the part of a store from a on

module _ (store : List ℤ) (a n : ℕ) where
  pub part_size : a + n ≤ length store → length (take (a + n - a) (drop a store)) ≡ n
  part_size room =
      let same : a + n - a ≡ n = omega arith in
      rw same (length-take-le n (drop a store) (omega (arith, length-drop a store)))

  pub part_cell : (i : ℕ) → i < n → get_or (take (a + n - a) (drop a store)) i (pos 0) ≡ get_or store (a + i) (pos 0)
  part_cell i h =
      get_or-take (a + n - a) (drop a store) i (pos 0) (omega arith) ∙ get_or-drop a store i (pos 0)
