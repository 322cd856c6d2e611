use Rattle.prelude.proofs.Choice.{tests}
use Rattle.prelude.specs.Choice.{◌also◌}
use native.Mathlib.Omega.{arith}
use Rattle.statements.specs.Statements.{return_kept}
use Rattle.statements.proofs.return_kept.Goals as goal

pub returns-then-row-eq0-2 : goal.returns-then-row-eq0-2
unfolding return_kept ◌also◌
returns-then-row-eq0-2 c = grind (arith, tests)

pub returns-else-row-eq0-2 : goal.returns-else-row-eq0-2
unfolding return_kept ◌also◌
returns-else-row-eq0-2 c = grind (arith, tests)
