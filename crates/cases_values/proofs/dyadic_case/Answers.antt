use borrow.Author.Rules.{rules}
use Rattle.values.specs.Values.{bind}
use Rattle.cases_values.specs.Cases.{dyadic_case}
use Rattle.cases_values.proofs.dyadic_case.Goals as goal

-- `cases_values::dyadic_case` meets its contract: both operands, then the operator.
pub returns-in_err-left : goal.returns-in_err-left
unfolding dyadic_case bind
returns-in_err-left c = search rules

pub returns-in_err-right : goal.returns-in_err-right
unfolding dyadic_case bind
returns-in_err-right c = search rules

pub returns : goal.returns
unfolding dyadic_case bind
returns c = search rules
