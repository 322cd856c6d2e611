use Rattle.cases_values.specs.Cases.{operand_at}
use Rattle.cases_values.proofs.operand_at.Goals as goal

pub returns : goal.returns
unfolding operand_at
returns c = cc
