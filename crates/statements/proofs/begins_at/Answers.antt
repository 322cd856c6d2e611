use Rattle.prelude.proofs.Choice.{tests}
use Rattle.prelude.specs.Choice.{◌also◌}
use native.Mathlib.Omega.{arith}
use Rattle.statements.specs.Statements.{begins_at}
use Rattle.statements.proofs.begins_at.Goals as goal

pub returns-then-next-rows_of : goal.returns-then-next-rows_of
unfolding begins_at ◌also◌
returns-then-next-rows_of c = grind (arith, tests)

pub returns-else-next-rows_of : goal.returns-else-next-rows_of
unfolding begins_at ◌also◌
returns-else-next-rows_of c = grind (arith, tests)
