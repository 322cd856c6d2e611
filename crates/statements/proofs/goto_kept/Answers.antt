use Rattle.prelude.proofs.Choice.{tests}
use Rattle.prelude.specs.Choice.{◌also◌}
use native.Mathlib.Omega.{arith}
use Rattle.statements.specs.Statements.{goto_kept}
use Rattle.statements.proofs.goto_kept.Goals as goal

pub returns-then-target_kept : goal.returns-then-target_kept
unfolding goto_kept ◌also◌
returns-then-target_kept c = grind (arith, tests)

pub returns-else-target_kept : goal.returns-else-target_kept
unfolding goto_kept ◌also◌
returns-else-target_kept c = grind (arith, tests)
