use Rattle.prelude.proofs.Choice.{tests}
use Rattle.prelude.specs.Choice.{◌also◌}
use native.Mathlib.Omega.{arith}
use Rattle.statements.specs.Statements.{value_kept}
use Rattle.statements.proofs.value_kept.Goals as goal

pub returns-then-row-eq0 : goal.returns-then-row-eq0
unfolding value_kept ◌also◌
returns-then-row-eq0 c = grind (arith, tests)

pub returns-else-row-eq0 : goal.returns-else-row-eq0
unfolding value_kept ◌also◌
returns-else-row-eq0 c = grind (arith, tests)
