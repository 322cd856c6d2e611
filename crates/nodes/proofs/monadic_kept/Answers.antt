use Rattle.prelude.proofs.Choice.{tests}
use Rattle.prelude.specs.Choice.{◌also◌}
use native.Mathlib.Omega.{arith}
use Rattle.nodes.specs.Nodes.{monadic_kept}
use Rattle.nodes.proofs.monadic_kept.Goals as goal

pub returns-then-row-ge1 : goal.returns-then-row-ge1
unfolding monadic_kept ◌also◌
returns-then-row-ge1 c = grind (arith, tests)

pub returns-else-row-ge1 : goal.returns-else-row-ge1
unfolding monadic_kept ◌also◌
returns-else-row-ge1 c = grind (arith, tests)
