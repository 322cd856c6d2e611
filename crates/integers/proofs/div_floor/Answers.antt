use mathlib.Core.Path.{◌≡◌, sym}
use mathlib.Core.Bool.{true}
use Prim.Native.Nat.{◌<◌}
use native.Mathlib.Omega.{arith}
use borrow.Author.Tests.{eqb-false}
use lib.Dec.{T}
use lib.IntN.{pos, neg_ℤ, nat_abs}
use lib.Signed.{lt_z, non_neg}
use mir.Syntax.{w32}
use mir.Val.{Fits}
use Rattle.values.proofs.Numbers.{plain64, wide, cast_fits, to_unsigned}
use Rattle.integers.proofs.Holding.{mag_neg, turns}
use Rattle.integers.proofs.Signs.{div_neg, div_pos, divisor_turned}
use borrow.Author.Rules.{rules}
use Rattle.integers.proofs.div_floor.Goals as goal
use Rattle.integers.proofs.div_floor.Goals.{Start, Then-b-lt0}

-- `integers::div_floor` meets its contract: by the sign of the divisor.
-- the divisor is not 0; where it is negative, its magnitude is -y
above_zero : (c : Start) → 0 < nat_abs c.args.y
above_zero c = let n = eqb-false (nat_abs c.args.y) 0 c.requires in omega arith

below : (c : Then-b-lt0) → lt_z c.args.y (pos 0) ≡ true
below c = rw (wide _ c.ranges.y) at c.if-b-lt0.true

magnitude : (c : Then-b-lt0)
    → let y = c.args.y in (T (non_neg (neg_ℤ y)) × Fits w32 (nat_abs (neg_ℤ y))) × (nat_abs (neg_ℤ y) ≡ nat_abs y)
magnitude c = divisor_turned c.args.y (below c) c.ranges.y

pub overflow_cast-a : goal.overflow_cast-a
overflow_cast-a c = cast_fits _ c.ranges.x

pub overflow_cast-b : goal.overflow_cast-b
overflow_cast-b c = cast_fits _ c.ranges.y

pub overflow_sub-a : goal.overflow_sub-a
overflow_sub-a c = (turns _ c.ranges.x).fits

pub overflow_sub-b : goal.overflow_sub-b
overflow_sub-b c = (turns _ c.ranges.y).fits

pub overflow_cast-b-then-b-lt0 : goal.overflow_cast-b-then-b-lt0
overflow_cast-b-then-b-lt0 c = rw (turns _ c.ranges.y).same (magnitude (goal.at.overflow_cast-b-then-b-lt0 c).Then-b-lt0).0

pub quotient-requires : goal.quotient-requires
quotient-requires c =
    rw ((turns _ c.ranges.x).same, (turns _ c.ranges.y).same)
    (omega (arith, mag_neg c.args.x, c.ranges.x.sfits), omega (arith, (magnitude (goal.at.quotient-requires c).Then-b-lt0).1, above_zero (goal.at.quotient-requires c).Start))

pub overflow_cast-b-else-b-lt0 : goal.overflow_cast-b-else-b-lt0
overflow_cast-b-else-b-lt0 c =
    rw (wide _ c.ranges.y) (to_unsigned c.args.y (rw (wide _ c.ranges.y) at c.if-b-lt0.false) c.ranges.y)

pub quotient-requires-else-b-lt0 : goal.quotient-requires-else-b-lt0
quotient-requires-else-b-lt0 c =
    rw (wide _ c.ranges.x, wide _ c.ranges.y) (omega (arith, c.ranges.x.sfits), above_zero (goal.at.quotient-requires-else-b-lt0 c).Start)

pub returns-then-b-lt0 : goal.returns-then-b-lt0
returns-then-b-lt0 c =
    rw (plain64 c.quotient.result (search rules), c.quotient.ensures)
    (rw ((turns _ c.ranges.x).same, (turns _ c.ranges.y).same, (magnitude (goal.at.returns-then-b-lt0 c).Then-b-lt0).1)
    (sym (div_neg c.args.x c.args.y (below (goal.at.returns-then-b-lt0 c).Then-b-lt0))))

pub returns-else-b-lt0 : goal.returns-else-b-lt0
returns-else-b-lt0 c =
    rw (plain64 c.quotient-else-b-lt0.result (search rules), c.quotient-else-b-lt0.ensures)
    (rw (wide _ c.ranges.x, wide _ c.ranges.y)
    (sym (div_pos c.args.x c.args.y (rw (wide _ c.ranges.y) at c.if-b-lt0.false))))
