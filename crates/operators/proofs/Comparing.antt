-- Equality of INTEGERs.
use mathlib.Core.Path.{◌≡◌, refl}
use mathlib.Core.Bool.{Bool, true, false}
use Prim.Native.Nat.{suc, ◌-◌, ◌^◌}
use native.Mathlib.Omega.{arith}
use borrow.Author.Tests.{eqb-true, eqb-false, eq-eqb, ne_eqb}
use lib.Dec.{eqb}
use lib.IntN.{ℤ, pos, negsuc}
use mir.Syntax.{w32}
use mir.Val.{SFits, of_z}
use Rattle.operators.specs.Operators.{equal_z}

-- `==` of two INTEGERs compares their bits
pub eq_bits : (a b : ℤ) → SFits w32 a → SFits w32 b → eqb (of_z w32 a) (of_z w32 b) ≡ equal_z a b
unfolding equal_z
eq_bits (pos a) (pos b) p q = refl
eq_bits (pos a) (negsuc b) p q = ne_eqb a (2 ^ 32 - suc b) (omega (arith, p.sfits, q.sfits))
eq_bits (negsuc a) (pos b) p q = ne_eqb (2 ^ 32 - suc a) b (omega (arith, p.sfits, q.sfits))
eq_bits (negsuc a) (negsuc b) p q = go (eqb a b) refl
  where
    go : (t : Bool) → eqb a b ≡ t → eqb (2 ^ 32 - suc a) (2 ^ 32 - suc b) ≡ t
    go true e = eq-eqb (2 ^ 32 - suc a) (2 ^ 32 - suc b) (omega (arith, eqb-true a b e))
    go false e =
        ne_eqb (2 ^ 32 - suc a) (2 ^ 32 - suc b) (λ k. eqb-false a b e (omega (arith, p.sfits, q.sfits)))
