-- What IN, a range and a complement give: a BOOLEAN or a SET in its range, or a trap.
use mathlib.Core.Path.{◌≡◌, sym, ◌∙◌}
use mathlib.Core.Bool.{Bool, true, false}
use Prim.Native.Nat.{ℕ, ◌+◌, ◌-◌, ◌^◌, ◌<◌}
use native.Mathlib.Omega.{arith}
use borrow.Author.Tests.{ltb-true, le-ltb, le-leb}
use lib.Pow.{pow_mono}
use lib.Dec.{ltb, T}
use lib.IntN.{ℤ, pos, negsuc, nat_abs}
use lib.Signed.{lt_z, non_neg}
use mir.Syntax.{w32}
use mir.Val.{SFits, Fits, to_z, of_z}
use Rattle.prelude.specs.Choice.{choose, ◌also◌}
use Rattle.prelude.proofs.Choice.{clash, also_true}
use Rattle.values.specs.Values.{BOOLEAN, SET, Gives}
use Rattle.sets.specs.Sets.{is_element, contains_of, elements_of, range_of, complement_of}
use Rattle.values.specs.Values.Gives.{trapped}
use Rattle.values.specs.declared.Value.TheVariants as Vs
use Rattle.values.proofs.Numbers.{plain32, to_unsigned}
use Rattle.values.proofs.Giving.{gives_boolean, gives_set, gives_one}
use Rattle.std.specs.Prelude.{Ok}

-- ---- a number from 0 to 31, by the test

element_not_negative : (x : ℤ) → is_element x ≡ true → lt_z x (pos 0) ≡ false
unfolding is_element
element_not_negative (pos i) h = le-ltb i 0 (omega arith)
element_not_negative (negsuc i) h = clash (sym h)

pub element_below : (x : ℤ) → is_element x ≡ true → nat_abs x < 32
unfolding is_element
element_below (pos i) h = ltb-true i 32 (rw (le-leb 0 i (omega arith)) at h)
element_below (negsuc i) h = clash (sym h)

-- where the code asks whether the number in 32 bits is one, and casts it
module _ {x : ℤ} (fits : SFits w32 x) {b : Bool} (is : b ≡ is_element (to_z w32 (of_z w32 x))) where
  pub element_no : b ≡ false → is_element x ≡ false
  element_no h = rw (plain32 x fits) at (sym is ∙ h)

  pub element_yes : b ≡ true → is_element x ≡ true
  element_yes h = rw (plain32 x fits) at (sym is ∙ h)

  pub element_cast : b ≡ true → T (non_neg (to_z w32 (of_z w32 x))) × Fits w32 (nat_abs (to_z w32 (of_z w32 x)))
  element_cast h = rw (plain32 x fits) (to_unsigned x (element_not_negative x (element_yes h)) fits)

-- ---- what the operators give

pub contains_gives : (x : ℤ) (s : ℕ) → Gives BOOLEAN (contains_of x s)
unfolding contains_of
contains_gives x s = gives_one (is_element x) (λ h. gives_boolean _) (λ h. trapped)

elements_fit : (a b : ℕ) → b < 32 → elements_of a b < 4294967296
unfolding elements_of choose
elements_fit a b h = go (ltb b a)
  where
    go : (t : Bool) → choose t 0 (2 ^ (b + 1) - 2 ^ a) < 4294967296
    go true = omega arith
    go false =
        omega (arith, pow_mono {i = b + 1} {j = 32} (omega arith), pow_mono {i = 0} {j = a} (omega arith))

pub range_gives : (x y : ℤ) → Gives SET (range_of x y)
unfolding range_of
range_gives x y =
    gives_one (is_element x also is_element y)
    (λ h. gives_set _ (elements_fit _ _ (element_below y (also_true (is_element x) (is_element y) h).1))) (λ h. trapped)

pub complement_gives : (s : ℕ) → Gives SET (Ok (Vs.Set (complement_of s)))
unfolding complement_of
complement_gives s = gives_set (4294967295 - s) (omega arith)
