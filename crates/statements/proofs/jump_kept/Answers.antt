use Rattle.prelude.proofs.Choice.{tests}
use Rattle.prelude.specs.Choice.{◌also◌}
use native.Mathlib.Omega.{arith}
use Rattle.statements.specs.Statements.{jump_kept}
use Rattle.statements.proofs.jump_kept.Goals as goal

pub returns-then-target_kept : goal.returns-then-target_kept
unfolding jump_kept ◌also◌
returns-then-target_kept c = grind (arith, tests)

pub returns-else-target_kept : goal.returns-else-target_kept
unfolding jump_kept ◌also◌
returns-else-target_kept c = grind (arith, tests)
