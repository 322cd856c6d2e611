-- Laws of signed numbers, which the proofs of the functions cite.
use mathlib.Core.Path.{◌≡◌, refl}
use mathlib.Core.Bool.{true, false}
use Prim.Native.Nat.{ℕ, suc, ◌/◌}
use native.Mathlib.Omega.{arith}
use borrow.Author.Tests.{ltb-true, eq-eqb, ne_eqb}
use lib.Dec.{eqb, T}
use lib.IntN.{ℤ, pos, negsuc, neg_ℤ, nat_abs}
use lib.Signed.{mag, lt_z, non_neg}
use mir.Syntax.{w32}
use mir.Val.{SFits, Fits, of_z}
use Rattle.prelude.proofs.Choice.{clash}
use Rattle.integers.specs.Integers.{quotient_of, div_of}

-- ---- a quotient by the sign of the dividend, and DIV by that of the divisor

pub quotient_neg : (x : ℤ) (d : ℕ) → lt_z x (pos 0) ≡ true → quotient_of x d ≡ negsuc (mag x / d)
unfolding quotient_of
quotient_neg (pos a) d h = absurd (omega (arith, ltb-true))
quotient_neg (negsuc a) d h = refl

pub quotient_pos : (x : ℤ) (d : ℕ) → lt_z x (pos 0) ≡ false → quotient_of x d ≡ pos (mag x / d)
unfolding quotient_of
quotient_pos (pos a) d h = refl
quotient_pos (negsuc a) d h = clash h

pub div_neg : (x y : ℤ) → lt_z y (pos 0) ≡ true → div_of x y ≡ quotient_of (neg_ℤ x) (nat_abs y)
unfolding div_of
div_neg x (pos n) h = absurd (omega (arith, ltb-true))
div_neg x (negsuc n) h = refl

pub div_pos : (x y : ℤ) → lt_z y (pos 0) ≡ false → div_of x y ≡ quotient_of x (nat_abs y)
unfolding div_of
div_pos x (pos n) h = refl
div_pos x (negsuc n) h = clash h

-- ---- the divisor 0

pub is_zero : (y : ℤ) → SFits w32 y → of_z w32 y ≡ 0 → eqb (nat_abs y) 0 ≡ true
is_zero (pos n) f e = eq-eqb n 0 e
is_zero (negsuc n) f e = absurd (omega (arith, f.sfits))

pub is_not_zero : (y : ℤ) → (of_z w32 y ≡ 0 → ⊥) → eqb (nat_abs y) 0 ≡ false
is_not_zero (pos n) e = ne_eqb n 0 e
is_not_zero (negsuc n) e = ne_eqb (suc n) 0 (omega arith)

-- a divisor as a magnitude
pub divisor_turned : (y : ℤ) → lt_z y (pos 0) ≡ true → SFits w32 y
    → (T (non_neg (neg_ℤ y)) × Fits w32 (nat_abs (neg_ℤ y))) × (nat_abs (neg_ℤ y) ≡ nat_abs y)
divisor_turned (pos n) h f = absurd (omega (arith, ltb-true))
divisor_turned (negsuc n) h f = ((tt, record { fits = omega (arith, f.sfits) }), refl)
