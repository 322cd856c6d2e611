use borrow.Author.Rules.{rules}
use Rattle.values.specs.Values.{bind}
use Rattle.cases_values.specs.Cases.{monadic_case}
use Rattle.cases_values.proofs.monadic_case.Goals as goal

-- `cases_values::monadic_case` meets its contract: the operand, then the operator.
pub returns-in_err-operand : goal.returns-in_err-operand
unfolding monadic_case bind
returns-in_err-operand c = search rules

pub returns : goal.returns
unfolding monadic_case bind
returns c = search rules
