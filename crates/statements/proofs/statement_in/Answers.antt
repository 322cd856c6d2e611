use Rattle.prelude.proofs.Choice.{tests}
use Rattle.prelude.specs.Choice.{◌also◌}
use native.Mathlib.Omega.{arith}
use Rattle.statements.specs.Statements.{statement_in}
use Rattle.statements.proofs.statement_in.Goals as goal

pub returns-then-statement_form : goal.returns-then-statement_form
unfolding statement_in ◌also◌
returns-then-statement_form c = grind (arith, tests)

pub returns-else-statement_form : goal.returns-else-statement_form
unfolding statement_in ◌also◌
returns-else-statement_form c = grind (arith, tests)
