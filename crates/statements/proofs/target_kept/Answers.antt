use Rattle.prelude.proofs.Choice.{tests}
use Rattle.prelude.specs.Choice.{◌also◌}
use native.Mathlib.Omega.{arith}
use Rattle.statements.specs.Statements.{target_kept}
use Rattle.statements.proofs.target_kept.Goals as goal

pub returns-then-start-target : goal.returns-then-start-target
unfolding target_kept ◌also◌
returns-then-start-target c = grind (arith, tests)

pub returns-else-start-target : goal.returns-else-start-target
unfolding target_kept ◌also◌
returns-else-start-target c = grind (arith, tests)
