use Rattle.prelude.proofs.Choice.{tests}
use Rattle.prelude.specs.Choice.{◌also◌}
use native.Mathlib.Omega.{arith}
use Rattle.nodes.specs.Nodes.{element_kept}
use Rattle.nodes.proofs.element_kept.Goals as goal

pub returns-then-child_kept : goal.returns-then-child_kept
unfolding element_kept ◌also◌
returns-then-child_kept c = grind (arith, tests)

pub returns-else-child_kept : goal.returns-else-child_kept
unfolding element_kept ◌also◌
returns-else-child_kept c = grind (arith, tests)
