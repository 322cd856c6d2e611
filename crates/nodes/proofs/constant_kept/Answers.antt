use Rattle.prelude.proofs.Choice.{tests}
use Rattle.prelude.specs.Choice.{choose, ◌also◌}
use native.Mathlib.Omega.{arith}
use Rattle.nodes.specs.Nodes.{constant_kept}
use Rattle.nodes.proofs.constant_kept.Goals as goal

pub returns-then-row-ne0 : goal.returns-then-row-ne0
unfolding constant_kept ◌also◌ choose
returns-then-row-ne0 c = grind (arith, tests)

pub returns-then-row-eq0 : goal.returns-then-row-eq0
unfolding constant_kept ◌also◌ choose
returns-then-row-eq0 c = grind (arith, tests)

pub returns-else-row-eq0 : goal.returns-else-row-eq0
unfolding constant_kept ◌also◌ choose
returns-else-row-eq0 c = grind (arith, tests)

pub returns-else-row-scalar_rows : goal.returns-else-row-scalar_rows
unfolding constant_kept ◌also◌ choose
returns-else-row-scalar_rows c = grind (arith, tests)
