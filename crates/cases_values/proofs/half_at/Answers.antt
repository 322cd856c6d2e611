use Rattle.cases_values.specs.Cases.{half_at}
use Rattle.cases_values.proofs.half_at.Goals as goal

pub returns : goal.returns
unfolding half_at
returns c = c.from_be_bytes.ensures
