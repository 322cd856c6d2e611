use mathlib.Core.Path.{◌∙◌}
use Rattle.cases_values.specs.Cases.{is_good}
use Rattle.cases_values.proofs.is_good.Goals as goal

pub returns : goal.returns
unfolding is_good
returns c = c.agrees.ensures ∙ rw c.answer.ensures
