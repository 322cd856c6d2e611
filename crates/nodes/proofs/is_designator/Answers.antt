use Rattle.prelude.proofs.Choice.{tests}
use Rattle.prelude.specs.Choice.{◌also◌}
use native.Mathlib.Omega.{arith}
use Rattle.nodes.specs.Nodes.{is_designator}
use Rattle.nodes.proofs.is_designator.Goals as goal

pub returns-then-kind-ge1 : goal.returns-then-kind-ge1
unfolding is_designator ◌also◌
returns-then-kind-ge1 c = grind (arith, tests)

pub returns-else-kind-ge1 : goal.returns-else-kind-ge1
unfolding is_designator ◌also◌
returns-else-kind-ge1 c = grind (arith, tests)
