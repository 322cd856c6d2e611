use Rattle.prelude.proofs.Choice.{tests}
use Rattle.prelude.specs.Choice.{◌also◌}
use native.Mathlib.Omega.{arith}
use Rattle.statements.specs.Statements.{is_node}
use Rattle.statements.proofs.is_node.Goals as goal

pub returns-then-node-rows_of : goal.returns-then-node-rows_of
unfolding is_node ◌also◌
returns-then-node-rows_of c = grind (arith, tests)

pub returns-else-node-rows_of : goal.returns-else-node-rows_of
unfolding is_node ◌also◌
returns-else-node-rows_of c = grind (arith, tests)
