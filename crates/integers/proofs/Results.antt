-- What each operator on INTEGERs gives: an INTEGER in its range, or a trap.
use mathlib.Core.Path.{◌≡◌, refl, sym, ap, ◌∙◌}
use mathlib.Core.Bool.{true, false}
use Prim.Native.Nat.{ℕ, zero, suc, ◌/◌, ◌<◌, ◌≤◌}
use native.Mathlib.Omega.{arith}
use native.Mathlib.Nat.{div-le_self, div-lt_self, div-one}
use borrow.Author.Tests.{ltb-true, leb-true}
use lib.Dec.{eqb}
use lib.IntN.{ℤ, pos, negsuc, neg_ℤ, nat_abs, ◌+ℤ◌, ◌-ℤ◌, ◌*ℤ◌}
use lib.Signed.{mag}
use mir.Syntax.{w32}
use mir.Val.{SFits}
use Rattle.prelude.proofs.Choice.{clash, also_true}
use Rattle.values.specs.Values.{INTEGER, is_integer, Gives}
use Rattle.integers.specs.Integers.{integer_of, quotient_of, div_of, mod_of, division_of, arithmetic_of, is_remainder}
use Rattle.values.specs.Values.Gives.{trapped}
use Rattle.values.proofs.Numbers.{integer_fits, fits_integer}
use Rattle.values.proofs.Giving.{gives_integer, gives_one}
use Rattle.integers.proofs.Holding.{mag_neg, mag_neg_pos}
use Rattle.integers.proofs.Division.{div_mod}

pub integer_gives : (z : ℤ) → Gives INTEGER (integer_of z)
unfolding integer_of
integer_gives z = gives_one (is_integer z) (λ h. gives_integer z (integer_fits z h)) (λ h. trapped)

-- ---- DIV

-- a quotient is no larger than the dividend
quotient_small : (x : ℤ) (d : ℕ) → mag (quotient_of x d) ≤ mag x
unfolding quotient_of
quotient_small (pos a) d = div-le_self a d
quotient_small (negsuc a) d = div-le_self a d

-- by a negative divisor it may reach one more, where x is the least
pub div_small : (x y : ℤ) → SFits w32 x → mag (div_of x y) ≤ 2147483648
unfolding div_of
div_small x (pos n) f = omega (arith, quotient_small x n, f.sfits)
div_small x (negsuc n) f = omega (arith, quotient_small (neg_ℤ x) (suc n), mag_neg x, f.sfits)

-- a number that fits is not out of range
not_out : {X : Type 0} (z : ℤ) → SFits w32 z → is_integer z ≡ false → X
not_out z f out = clash (sym (fits_integer z f) ∙ out)

-- "So DIV can now overflow": a quotient is out of range for -2147483648 DIV -1 alone
pub div_range : (x y : ℤ) → is_integer x ≡ true → is_integer (div_of x y) ≡ false
    → (x ≡ negsuc 2147483647) × (y ≡ negsuc 0)
unfolding div_of quotient_of
div_range x (pos n) h out =
    not_out (quotient_of x n) (record { sfits = omega (arith, quotient_small x n, (integer_fits x h).sfits) }) out
div_range (pos a) (negsuc n) h out =
    let q = quotient_of (neg_ℤ (pos a)) (suc n) in
    let l = quotient_small (neg_ℤ (pos a)) (suc n) in
    not_out q (record { sfits = omega (arith, mag_neg_pos a, (integer_fits (pos a) h).sfits) }) out
div_range (negsuc a) (negsuc zero) h out =
    let f = integer_fits (negsuc a) h in
    let least : a < 2147483647 → ⊥ =
    λ l. not_out (pos (suc a / 1)) (record { sfits = omega (arith, div-one (suc a)) }) out in
    (ap negsuc (omega (arith, f.sfits)), refl)
div_range (negsuc a) (negsuc (suc n)) h out =
    let l : suc a / suc (suc n) < suc a = div-lt_self (omega arith) (omega arith) in
    not_out (pos (suc a / suc (suc n))) (record { sfits = omega (arith, (integer_fits (negsuc a) h).sfits) }) out

-- ---- MOD

remainder_fits : (y r : ℤ) → is_remainder y r ≡ true → SFits w32 y → SFits w32 r
unfolding is_remainder
remainder_fits (pos n) (pos k) h f =
    record { sfits = let l = ltb-true k n (also_true _ _ h).1 in omega (arith, f.sfits) }
remainder_fits (pos n) (negsuc k) h f = clash (sym (also_true _ _ h).0)
remainder_fits (negsuc n) (pos k) h f =
    record { sfits = let l = leb-true k 0 (also_true _ _ h).1 in omega arith }
remainder_fits (negsuc n) (negsuc k) h f =
    record { sfits = let l = ltb-true k n (also_true _ _ h).0 in omega (arith, f.sfits) }

pub mod_fits : (x y : ℤ) → eqb (nat_abs y) 0 ≡ false → SFits w32 y → SFits w32 (mod_of x y)
mod_fits x y h f = remainder_fits y (mod_of x y) (div_mod x y h).remains f

-- "its MOD is 0": MOD is in range by every divisor but 0
pub mod_range : (x y : ℤ) → is_integer y ≡ true → eqb (nat_abs y) 0 ≡ false → is_integer (mod_of x y) ≡ true
mod_range x y f h = fits_integer (mod_of x y) (mod_fits x y h (integer_fits y f))

-- ---- operators 1 to 5

division_gives : (op : ℕ) (x y : ℤ) → SFits w32 y → Gives INTEGER (division_of op x y)
unfolding division_of
division_gives op x y f =
    gives_one (eqb (nat_abs y) 0) (λ h. trapped)
    (λ h. gives_one (eqb op 4) (λ k. integer_gives (div_of x y)) (λ k. gives_integer (mod_of x y) (mod_fits x y h f)))

pub arithmetic_gives : (op : ℕ) (x y : ℤ) → SFits w32 x → SFits w32 y → Gives INTEGER (arithmetic_of op x y)
unfolding arithmetic_of
arithmetic_gives op x y p q =
    gives_one (eqb op 1) (λ h. integer_gives (x +ℤ y))
    (λ h. gives_one (eqb op 2) (λ h. integer_gives (x -ℤ y))
    (λ h. gives_one (eqb op 3) (λ h. integer_gives (x *ℤ y)) (λ h. division_gives op x y q)))
