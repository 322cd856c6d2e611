use Rattle.prelude.proofs.Choice.{tests}
use Rattle.prelude.specs.Choice.{◌also◌}
use native.Mathlib.Omega.{arith}
use Rattle.nodes.specs.Nodes.{guard_kept}
use Rattle.nodes.proofs.guard_kept.Goals as goal

pub returns-then-row-types : goal.returns-then-row-types
unfolding guard_kept ◌also◌
returns-then-row-types c = grind (arith, tests)

pub returns-else-row-types : goal.returns-else-row-types
unfolding guard_kept ◌also◌
returns-else-row-types c = grind (arith, tests)
