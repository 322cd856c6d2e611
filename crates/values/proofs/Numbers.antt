-- Laws of signed numbers and of tests for a range, which the proofs of the functions cite.
use mathlib.Core.Path.{◌≡◌, refl, sym, ap, ◌∙◌}
use mathlib.Core.Bool.{Bool, true, false, not, ◌&&◌}
use Prim.Native.Nat.{ℕ, zero, suc, ◌-◌, ◌<◌, ◌≤◌}
use native.Mathlib.Omega.{arith}
use native.Mathlib.Nat.{zero-add}
use borrow.Author.Tests.{ltb-true, ltb-false, leb-true, leb-false, lt-ltb, le-ltb, le-leb, lt-leb, ne_eqb}
use lib.Dec.{leb, ltb, T}
use lib.IntN.{ℤ, pos, negsuc, nat_abs, ◌-ℤ◌}
use lib.Signed.{mag, lt_z, le_z, non_neg}
use mir.Syntax.{Width, w32, w64}
use mir.Val.{SFits, Fits, to_z, of_z, bool_byte}
use mir.ValLaws.{to_z-of_z}
use Rattle.prelude.specs.Choice.{choose}
use Rattle.prelude.proofs.Choice.{clash}
use Rattle.values.specs.Values.{is_integer, is_set, boolean_cell, set_cell, signed_of}
use Rattle.values.specs.declared.Value.TheVariants as Vs
use Rattle.values.specs.declared.Stop.TheVariants as St
use Rattle.std.specs.Prelude.{Ok, Err}

-- ---- a number in lo to hi, below it, above it

module _ (lo hi n : ℕ) where
  pub inside : lo ≤ n → n < suc hi → (leb lo n && leb n hi) ≡ true
  inside p q = rw (le-leb lo n p, le-leb n hi (omega arith))

  pub under : n < lo → (leb lo n && leb n hi) ≡ false
  under h = rw (lt-leb lo n h)

  pub over : suc hi ≤ n → (leb lo n && leb n hi) ≡ false
  over h = rw (lt-leb n hi (omega arith)) (both (leb lo n))
    where
      both : (b : Bool) → (b && false) ≡ false
      both true = refl
      both false = refl

-- from k on, and not k
pub past : (k n : ℕ) → k ≤ n → (n ≡ k → ⊥) → suc k ≤ n
past k n h p = omega arith

-- ---- numbers as bits

-- what is read back from the bits of a number that fits
pub plain32 : (z : ℤ) → SFits w32 z → to_z w32 (of_z w32 z) ≡ z
plain32 z h = to_z-of_z w32 z h

pub plain64 : (z : ℤ) → SFits w64 z → to_z w64 (of_z w64 z) ≡ z
plain64 z h = to_z-of_z w64 z h

pub widen : (z : ℤ) → SFits w32 z → SFits w64 z
widen z h = record { sfits = omega (arith, h.sfits) }

-- the same through a wider type
pub cast_fits : (z : ℤ) → SFits w32 z → SFits w64 (to_z w32 (of_z w32 z))
cast_fits z h = rw (plain32 z h) (widen z h)

pub wide : (z : ℤ) → SFits w32 z → to_z w64 (of_z w64 (to_z w32 (of_z w32 z))) ≡ z
wide z h = plain64 _ (cast_fits z h) ∙ plain32 z h

-- a natural number as a signed one
pub of_nat : (n : ℕ) → n < 2147483648 → to_z w32 n ≡ pos n
of_nat n h = to_z-of_z w32 (pos n) (record { sfits = h })

pub of_nat64 : (n : ℕ) → n < 9223372036854775808 → to_z w64 n ≡ pos n
of_nat64 n h = to_z-of_z w64 (pos n) (record { sfits = h })

-- a cell whose bits are a small number
pub bits_are : (z : ℤ) → SFits w64 z → (k : ℕ) → k < 2 → of_z w64 z ≡ k → z ≡ pos k
bits_are (pos n) f k l e = ap pos e
bits_are (negsuc n) f k l e = absurd (omega (arith, f.sfits))

-- ---- by its sign

pub pos_is : (z : ℤ) → lt_z z (pos 0) ≡ false → z ≡ pos (nat_abs z)
pos_is (pos n) h = refl
pos_is (negsuc n) h = clash h

pub mag_is : (z : ℤ) → lt_z z (pos 0) ≡ false → nat_abs z ≡ mag z
mag_is (pos n) h = refl
mag_is (negsuc n) h = clash h

pub neg_is : (z : ℤ) → lt_z z (pos 0) ≡ true → z ≡ negsuc (mag z)
neg_is (pos n) h = absurd (omega (arith, ltb-true))
neg_is (negsuc n) h = refl

-- `a <= b` as the other way round, `b < a`
not_less_nat : (a b : ℕ) → ltb b a ≡ not (leb a b)
not_less_nat a b = go (leb a b) refl
  where
    go : (t : Bool) → leb a b ≡ t → ltb b a ≡ not t
    go true e = le-ltb b a (leb-true a b e)
    go false e = lt-ltb b a (leb-false a b e)

not_less : (a b : ℤ) → lt_z b a ≡ not (le_z a b)
not_less (pos a) (pos b) = not_less_nat a b
not_less (pos a) (negsuc b) = refl
not_less (negsuc a) (pos b) = refl
not_less (negsuc a) (negsuc b) = not_less_nat b a

pub reaches : (a b : ℤ) → le_z a b ≡ true → lt_z b a ≡ false
reaches a b e = not_less a b ∙ ap not e

pub falls_short : (a b : ℤ) → le_z a b ≡ false → lt_z b a ≡ true
falls_short a b e = not_less a b ∙ ap not e

-- `z <= k` as a choice by `k < z`
pub at_most : (z k : ℤ) → le_z z k ≡ choose (lt_z k z) false true
unfolding choose
at_most z k = go (le_z z k) refl
  where
    go : (t : Bool) → le_z z k ≡ t → t ≡ choose (lt_z k z) false true
    go true e = rw (reaches z k e)
    go false e = rw (falls_short z k e)

-- a bool as a number
pub bit_number : (b : Bool) → to_z w64 (of_z w64 (pos (bool_byte b))) ≡ choose b (pos 1) (pos 0)
unfolding choose
bit_number true = plain64 (pos 1) (record { sfits = omega arith })
bit_number false = plain64 (pos 0) (record { sfits = omega arith })

-- what a cast to a width without a sign asks
pub unsigned : (w : Width) (z : ℤ) → lt_z z (pos 0) ≡ false → Fits w (mag z) → T (non_neg z) × Fits w (nat_abs z)
unsigned w (pos n) h l = (tt, l)
unsigned w (negsuc n) h l = clash h

pub to_unsigned : (z : ℤ) → lt_z z (pos 0) ≡ false → SFits w32 z → T (non_neg z) × Fits w32 (nat_abs z)
to_unsigned z h f = unsigned w32 z h (record { fits = omega (arith, f.sfits) })

pub to_unsigned64 : (z : ℤ) → lt_z z (pos 0) ≡ false → SFits w64 z → T (non_neg z) × Fits w64 (nat_abs z)
to_unsigned64 z h f = unsigned w64 z h (record { fits = omega (arith, f.sfits) })

-- -1 - z, of a natural number and of a negative one
pub below_zero : (n : ℕ) → negsuc 0 -ℤ pos n ≡ negsuc n
below_zero zero = refl
below_zero (suc n) = ap (λ (m : ℕ). negsuc (suc m)) (zero-add n)

pub above_zero : (z : ℤ) → lt_z z (pos 0) ≡ true → negsuc 0 -ℤ z ≡ pos (mag z)
above_zero (pos n) h = absurd (omega (arith, ltb-true))
above_zero (negsuc n) h = rw (le-ltb (suc n) 1 (omega arith)) (ap pos less)
  where
    less : suc n - 1 ≡ n
    less = omega arith

-- ---- INTEGER

-- the range of INTEGER is what 32 bits hold
pub integer_fits : (z : ℤ) → is_integer z ≡ true → SFits w32 z
unfolding is_integer choose
integer_fits z h = go z (lt_z z (negsuc 2147483647)) (lt_z (pos 2147483647) z) refl refl h
  where
    go : (z : ℤ) (s t : Bool) → lt_z z (negsuc 2147483647) ≡ s → lt_z (pos 2147483647) z ≡ t
        → choose s false (choose t false true) ≡ true → SFits w32 z
    go z true t p q e = clash (sym e)
    go z false true p q e = clash (sym e)
    go (pos n) false false p q e = record { sfits = omega (arith, ltb-false) }
    go (negsuc n) false false p q e = record { sfits = omega (arith, ltb-false) }

pub fits_integer : (z : ℤ) → SFits w32 z → is_integer z ≡ true
unfolding is_integer choose
fits_integer (pos n) f = rw (le-ltb 2147483647 n (omega (arith, f.sfits)))
fits_integer (negsuc n) f = rw (le-ltb 2147483647 n (omega (arith, f.sfits)))

-- the upper half of 32 bits, in two's complement
pub minus_top : (n : ℕ) → 2147483648 ≤ n → n < 4294967296 → mag (pos n -ℤ pos 4294967296) < 2147483648
minus_top n h k = rw (lt-ltb n 4294967296 k) (omega arith)

-- ---- cells

-- 32 bits in two's complement
pub signed_is : (n : ℕ) → n < 4294967296 → to_z w32 n ≡ signed_of n
unfolding signed_of choose
signed_is n h = rw (lt-ltb n 4294967296 h)

-- neither 0 nor 1
pub no_boolean : (z : ℤ) → (of_z w64 z ≡ 0 → ⊥) → (of_z w64 z ≡ 1 → ⊥) → boolean_cell z ≡ Err St.Stuck
unfolding boolean_cell choose
no_boolean (pos n) p q = rw (ne_eqb n 0 p, ne_eqb n 1 q)
no_boolean (negsuc n) p q = refl

pub set_neg : (z : ℤ) → lt_z z (pos 0) ≡ true → set_cell z ≡ Err St.Stuck
unfolding set_cell
set_neg (pos n) h = absurd (omega (arith, ltb-true))
set_neg (negsuc n) h = refl

pub set_large : (z : ℤ) → lt_z (pos 4294967295) z ≡ true → set_cell z ≡ Err St.Stuck
unfolding set_cell is_set choose
set_large (pos n) h = rw (le-ltb n 4294967296 (omega (arith, ltb-true)))
set_large (negsuc n) h = refl

pub set_is : (z : ℤ) → lt_z z (pos 0) ≡ false → lt_z (pos 4294967295) z ≡ false → set_cell z ≡ Ok (Vs.Set (nat_abs z))
unfolding set_cell is_set choose
set_is (pos n) h k = rw (lt-ltb n 4294967296 (omega (arith, ltb-false)))
set_is (negsuc n) h k = clash h

pub set_fits : (z : ℤ) → lt_z z (pos 0) ≡ false → lt_z (pos 4294967295) z ≡ false → T (non_neg z) × Fits w32 (nat_abs z)
set_fits (pos n) h k = unsigned w32 (pos n) h (record { fits = omega (arith, ltb-false) })
set_fits (negsuc n) h k = clash h
