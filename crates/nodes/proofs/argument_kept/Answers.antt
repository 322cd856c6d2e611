use Rattle.prelude.proofs.Choice.{tests}
use Rattle.prelude.specs.Choice.{◌also◌}
use native.Mathlib.Omega.{arith}
use Rattle.nodes.specs.Nodes.{argument_kept}
use Rattle.nodes.proofs.argument_kept.Goals as goal

pub returns-then-row-eq0 : goal.returns-then-row-eq0
unfolding argument_kept ◌also◌
returns-then-row-eq0 c = grind (arith, tests)

pub returns-else-row-eq0 : goal.returns-else-row-eq0
unfolding argument_kept ◌also◌
returns-else-row-eq0 c = grind (arith, tests)
