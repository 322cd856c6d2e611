use mathlib.Core.Path.{◌≡◌}
use native.Mathlib.Omega.{arith}
use Prim.Native.Nat.{◌+◌, ◌*◌}
use lib.IntN.{pos, ◌+ℤ◌, ◌*ℤ◌}
use mir.Syntax.{w64}
use mir.Val.{SFits, to_z}
use Rattle.values.proofs.Numbers.{cast_fits, wide, plain64, of_nat64}
use Rattle.cases_values.specs.Cases.{wide_at}
use Rattle.cases_values.proofs.Laws.{upper_fits, wide_fits}
use Rattle.cases_values.proofs.wide_at.Goals as goal
use Rattle.cases_values.proofs.wide_at.Goals.{Start}

-- `cases_values::wide_at` meets its contract: the sum fits 64 bits.
-- the product and the sum, of the numbers themselves
product : (c : Start) → SFits w64 (c.args.high *ℤ pos 4294967296)
product c = upper_fits c.args.high c.ranges.high

low-is : (c : Start) → to_z w64 (c.args.b * 65536 + c.args.c) ≡ pos (c.args.b * 65536 + c.args.c)
low-is c = of_nat64 (c.args.b * 65536 + c.args.c) (omega arith)

sum : (c : Start) → SFits w64 ((c.args.high *ℤ pos 4294967296) +ℤ pos (c.args.b * 65536 + c.args.c))
sum c = wide_fits c.args.high (c.args.b * 65536 + c.args.c) c.ranges.high (omega arith)

pub overflow_cast-result : goal.overflow_cast-result
overflow_cast-result c = cast_fits _ c.ranges.high

pub overflow_mul-result : goal.overflow_mul-result
overflow_mul-result c = rw (wide _ c.ranges.high) (product (goal.at.overflow_mul-result c).Start)

pub overflow_add-result : goal.overflow_add-result
overflow_add-result c = rw (wide _ c.ranges.high, plain64 _ (product (goal.at.overflow_add-result c).Start), low-is (goal.at.overflow_add-result c).Start) (sum (goal.at.overflow_add-result c).Start)

pub returns : goal.returns
unfolding wide_at
returns c = rw (wide _ c.ranges.high, plain64 _ (product (goal.at.returns c).Start), low-is (goal.at.returns c).Start) (plain64 _ (sum (goal.at.returns c).Start))
