use Rattle.prelude.proofs.Choice.{tests}
use Rattle.prelude.specs.Choice.{choose, ◌also◌}
use native.Mathlib.Omega.{arith}
use Rattle.frames.specs.Procedures.{module_kept}
use Rattle.frames.proofs.module_kept.Goals as goal

pub returns-then-r-ne0 : goal.returns-then-r-ne0
unfolding module_kept ◌also◌ choose
returns-then-r-ne0 c = grind (arith, tests)

pub returns-then-row-eq0 : goal.returns-then-row-eq0
unfolding module_kept ◌also◌ choose
returns-then-row-eq0 c = grind (arith, tests)

pub returns-else-row-eq0 : goal.returns-else-row-eq0
unfolding module_kept ◌also◌ choose
returns-else-row-eq0 c = grind (arith, tests)
