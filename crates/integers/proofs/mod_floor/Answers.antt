use mathlib.Core.Path.{◌≡◌}
use lib.IntN.{◌*ℤ◌}
use mir.Syntax.{w32, w64}
use mir.Val.{SFits, to_z, of_z}
use Rattle.values.proofs.Numbers.{plain32, plain64, wide, widen, cast_fits}
use Rattle.integers.specs.Integers.{div_of, mod_of}
use Rattle.integers.proofs.Holding.{multiple_fits}
use Rattle.integers.proofs.Results.{div_small, mod_fits}
use borrow.Author.Rules.{rules}
use Rattle.integers.proofs.mod_floor.Goals as goal
use Rattle.integers.proofs.mod_floor.Goals.{After-div_floor}

-- `integers::mod_floor` meets its contract: what the quotient leaves is in range.
q-is : (c : After-div_floor)
    → to_z w64 (of_z w64 c.div_floor.result) ≡ div_of c.args.x c.args.y
q-is c =
    rw (
      plain64 c.div_floor.result (search rules),
      c.div_floor.ensures,
      plain32 _ c.ranges.x,
      plain32 _ c.ranges.y,
    )

-- the quotient times the divisor
multiple : (c : After-div_floor)
    → SFits w64 (div_of c.args.x c.args.y *ℤ c.args.y)
multiple c =
    let c = c in
    multiple_fits (div_of c.args.x c.args.y) c.args.y (div_small c.args.x c.args.y c.ranges.x) c.ranges.y

remainder : (c : After-div_floor)
    → SFits w32 (mod_of c.args.x c.args.y)
remainder c = let c = c in mod_fits c.args.x c.args.y c.requires c.ranges.y

pub overflow_cast-m : goal.overflow_cast-m
overflow_cast-m c = cast_fits _ c.ranges.x

pub overflow_cast-m-2 : goal.overflow_cast-m-2
overflow_cast-m-2 c = cast_fits _ c.ranges.y

pub overflow_mul-m : goal.overflow_mul-m
overflow_mul-m c = rw (q-is (goal.at.overflow_mul-m c).After-div_floor, wide _ c.ranges.y) (multiple (goal.at.overflow_mul-m c).After-div_floor)

pub overflow_sub-m : goal.overflow_sub-m
unfolding mod_of
overflow_sub-m c =
    rw (q-is (goal.at.overflow_sub-m c).After-div_floor, wide _ c.ranges.x, wide _ c.ranges.y, plain64 _ (multiple (goal.at.overflow_sub-m c).After-div_floor)) (widen _ (remainder (goal.at.overflow_sub-m c).After-div_floor))

pub overflow_cast-result : goal.overflow_cast-result
unfolding mod_of
overflow_cast-result c =
    rw (
      q-is (goal.at.overflow_cast-result c).After-div_floor,
      wide _ c.ranges.x,
      wide _ c.ranges.y,
      plain64 _ (multiple (goal.at.overflow_cast-result c).After-div_floor),
      plain64 (mod_of c.args.x c.args.y) (widen _ (remainder (goal.at.overflow_cast-result c).After-div_floor)),
    )
    (remainder (goal.at.overflow_cast-result c).After-div_floor)

pub returns : goal.returns
unfolding mod_of
returns c =
    rw (
      q-is (goal.at.returns c).After-div_floor,
      wide _ c.ranges.x,
      wide _ c.ranges.y,
      plain64 _ (multiple (goal.at.returns c).After-div_floor),
      plain64 (mod_of c.args.x c.args.y) (widen _ (remainder (goal.at.returns c).After-div_floor)),
    )
    (plain32 (mod_of c.args.x c.args.y) (remainder (goal.at.returns c).After-div_floor))
