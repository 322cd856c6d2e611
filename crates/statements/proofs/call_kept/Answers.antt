use Rattle.prelude.proofs.Choice.{tests}
use Rattle.prelude.specs.Choice.{◌also◌}
use native.Mathlib.Omega.{arith}
use Rattle.statements.specs.Statements.{call_kept}
use Rattle.statements.proofs.call_kept.Goals as goal

pub returns-then-arguments_kept : goal.returns-then-arguments_kept
unfolding call_kept ◌also◌
returns-then-arguments_kept c = λ n runs. grind (arith, tests)

pub returns-else-arguments_kept : goal.returns-else-arguments_kept
unfolding call_kept ◌also◌
returns-else-arguments_kept c = λ n runs. grind (arith, tests)
