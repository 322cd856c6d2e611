-- Laws of numbers as links, addresses and types.
use mathlib.Core.Path.{◌≡◌, refl}
use mathlib.Core.Bool.{true, false}
use native.Mathlib.Omega.{arith}
use borrow.Author.Tests.{ltb-true, ltb-false, lt-ltb, le-ltb}
use lib.Dec.{T}
use lib.IntN.{ℤ, pos, negsuc, nat_abs}
use lib.Signed.{lt_z, non_neg}
use mir.Syntax.{w16}
use mir.Val.{Fits}
use Rattle.prelude.specs.Choice.{choose}
use Rattle.prelude.proofs.Choice.{clash}
use Rattle.semantics.specs.Memory.{mark_of}
use Rattle.std.specs.Prelude.{Some, None}

-- a negative number
pub mark_negative : (z : ℤ) → lt_z z (pos 0) ≡ true → mark_of z ≡ None
unfolding mark_of
mark_negative (pos n) h = absurd (omega (arith, ltb-true))
mark_negative (negsuc n) h = refl

-- a number of more than 16 bits
pub mark_large : (z : ℤ) → lt_z (pos 65535) z ≡ true → mark_of z ≡ None
unfolding mark_of choose
mark_large (pos n) h = rw (le-ltb n 65536 (omega (arith, ltb-true)))
mark_large (negsuc n) h = refl

-- a number of 16 bits
pub mark_is : (z : ℤ) → lt_z z (pos 0) ≡ false → lt_z (pos 65535) z ≡ false → mark_of z ≡ Some (nat_abs z)
unfolding mark_of choose
mark_is (pos n) h k = rw (lt-ltb n 65536 (omega (arith, ltb-false)))
mark_is (negsuc n) h k = clash h

-- what a cast to 16 bits asks
pub mark_fits : (z : ℤ) → lt_z z (pos 0) ≡ false → lt_z (pos 65535) z ≡ false → T (non_neg z) × Fits w16 (nat_abs z)
mark_fits (pos n) h k = (tt, record { fits = omega (arith, ltb-false) })
mark_fits (negsuc n) h k = clash h
