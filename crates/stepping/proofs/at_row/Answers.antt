use mathlib.Core.Path.{refl}
use Rattle.stepping.specs.Counting.{at_row}
use Rattle.stepping.proofs.at_row.Goals as goal

-- `stepping::at_row` meets its contract: a row put in.
pub returns : goal.returns
unfolding at_row
returns c = refl
