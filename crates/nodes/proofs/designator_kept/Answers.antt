use Rattle.prelude.proofs.Choice.{tests}
use Rattle.prelude.specs.Choice.{◌also◌}
use native.Mathlib.Omega.{arith}
use Rattle.nodes.specs.Nodes.{designator_kept}
use Rattle.nodes.proofs.designator_kept.Goals as goal

pub returns-then-child-r : goal.returns-then-child-r
unfolding designator_kept ◌also◌
returns-then-child-r c = grind (arith, tests)

pub returns-else-child-r : goal.returns-else-child-r
unfolding designator_kept ◌also◌
returns-else-child-r c = grind (arith, tests)
