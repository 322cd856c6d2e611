use mathlib.Core.Path.{ap, ◌∙◌}
use Rattle.integers.specs.Integers.{integer_of}
use Rattle.values.proofs.Numbers.{cast_fits}
use Rattle.integers.proofs.Holding.{sum_holds}
use Rattle.integers.proofs.add.Goals as goal

-- `integers::add` meets its contract: a sum of two INTEGERs fits 64 bits.
pub overflow_cast-x : goal.overflow_cast-x
overflow_cast-x c = cast_fits _ c.ranges.x

pub overflow_cast-y : goal.overflow_cast-y
overflow_cast-y c = cast_fits _ c.ranges.y

pub overflow_add-x : goal.overflow_add-x
overflow_add-x c = (sum_holds _ _ c.ranges.x c.ranges.y).fits

pub returns : goal.returns
returns c = c.integer.ensures ∙ ap integer_of (sum_holds _ _ c.ranges.x c.ranges.y).same
