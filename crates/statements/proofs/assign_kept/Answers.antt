use Rattle.prelude.proofs.Choice.{tests}
use Rattle.prelude.specs.Choice.{◌also◌}
use native.Mathlib.Omega.{arith}
use Rattle.statements.specs.Statements.{assign_kept}
use Rattle.statements.proofs.assign_kept.Goals as goal

pub returns-then-is_node : goal.returns-then-is_node
unfolding assign_kept ◌also◌
returns-then-is_node c = grind (arith, tests)

pub returns-else-is_node : goal.returns-else-is_node
unfolding assign_kept ◌also◌
returns-else-is_node c = grind (arith, tests)
