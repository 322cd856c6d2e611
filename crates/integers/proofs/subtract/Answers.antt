use mathlib.Core.Path.{ap, ◌∙◌}
use Rattle.integers.specs.Integers.{integer_of}
use Rattle.values.proofs.Numbers.{cast_fits}
use Rattle.integers.proofs.Holding.{difference_holds}
use Rattle.integers.proofs.subtract.Goals as goal

-- `integers::subtract` meets its contract: a difference of two INTEGERs fits 64 bits.
pub overflow_cast-x : goal.overflow_cast-x
overflow_cast-x c = cast_fits _ c.ranges.x

pub overflow_cast-y : goal.overflow_cast-y
overflow_cast-y c = cast_fits _ c.ranges.y

pub overflow_sub-x : goal.overflow_sub-x
overflow_sub-x c = (difference_holds _ _ c.ranges.x c.ranges.y).fits

pub returns : goal.returns
returns c = c.integer.ensures ∙ ap integer_of (difference_holds _ _ c.ranges.x c.ranges.y).same
