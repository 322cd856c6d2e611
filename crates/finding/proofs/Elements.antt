-- An array's elements: what the tests of an index say.
use mathlib.Core.Path.{◌≡◌, refl}
use mathlib.Core.Bool.{true, false}
use Prim.Native.Nat.{◌≤◌}
use native.Mathlib.Omega.{arith}
use borrow.Author.Tests.{ltb-true, le-ltb}
use lib.IntN.{ℤ, pos, negsuc, nat_abs}
use lib.Signed.{lt_z}
use Rattle.prelude.specs.Choice.{choose}
use Rattle.prelude.proofs.Choice.{clash}
use Rattle.image.specs.declared.Row.{Row}
use Rattle.values.specs.declared.Trap.TheVariants as Ts
use Rattle.values.specs.declared.Stop.TheVariants as St
use Rattle.semantics.specs.declared.Place.{Place}
use Rattle.semantics.specs.Layout.{Program}
use Rattle.semantics.specs.Finding.{element_place}
use Rattle.std.specs.Prelude.{Err}

module _ (g : Program) (whole : Place) (array : Row) where
  -- below 0
  pub element_negative : (z : ℤ) → lt_z z (pos 0) ≡ true → element_place g whole array z ≡ Err (St.Trap Ts.Index)
  unfolding element_place
  element_negative (pos n) h = absurd (omega (arith, ltb-true))
  element_negative (negsuc n) h = refl

  -- from the length on
  pub element_past : (z : ℤ) → lt_z z (pos 0) ≡ false → array.b ≤ nat_abs z
      → element_place g whole array z ≡ Err (St.Trap Ts.Index)
  unfolding element_place choose
  element_past (pos n) h p = rw (le-ltb n array.b p)
  element_past (negsuc n) h p = clash h
