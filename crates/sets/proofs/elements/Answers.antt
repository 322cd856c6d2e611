use mathlib.Core.Path.{◌≡◌}
use Prim.Native.Nat.{ℕ, ◌*◌, ◌%◌, ◌^◌, ◌≤◌}
use native.Mathlib.Omega.{arith}
use native.Mathlib.Nat.{pow-suc, mod-eq_of_lt}
use native.Mathlib.Numerals.{add-one}
use lib.Pow.{pow_mono}
use borrow.Author.Tests.{lt-ltb, le-ltb}
use Rattle.prelude.specs.Choice.{choose}
use Rattle.sets.specs.Sets.{elements_of}
use Rattle.sets.proofs.elements.Goals as goal
use Rattle.sets.proofs.elements.Goals.{Else-b-a}

-- `sets::elements` meets its contract: both powers fit 64 bits, and their difference 32.
-- the two powers, in order, as 64 bits hold them
module _ (c : Else-b-a) where
  abbrev a : ℕ
  a = c.args.a

  abbrev b : ℕ
  b = c.args.b

  top : 2 ^ b ≤ 2147483648
  top = pow_mono {i = b} {j = 31} (omega arith)

  low : 2 ^ a ≤ 2 ^ b
  low = pow_mono {i = a} {j = b} (omega arith)

  above-is : (2 * 2 ^ b) % 18446744073709551616 ≡ 2 * 2 ^ b
  above-is = mod-eq_of_lt (omega (arith, top))

  below-is : (1 * 2 ^ a) % 18446744073709551616 ≡ 1 * 2 ^ a
  below-is = mod-eq_of_lt (omega (arith, top, low))

pub returns-then-b-a : goal.returns-then-b-a
unfolding elements_of choose
returns-then-b-a c = rw (lt-ltb _ _ c.if-b-a.true)

pub overflow_sub-result : goal.overflow_sub-result
overflow_sub-result c = rw (above-is c, below-is c) (omega (arith, low c))

pub returns : goal.returns
unfolding elements_of choose
returns c =
    let b = c.args.b in
    rw (above-is c, below-is c, le-ltb _ _ c.if-b-a.false, add-one b, pow-suc 2 b) (omega arith)
