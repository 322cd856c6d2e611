use Rattle.prelude.specs.Choice.{choose}
use Rattle.prelude.proofs.Choice.{tests}
use Rattle.designators.specs.Designators.{typed_cell}
use Rattle.designators.proofs.typed_cell.Goals as goal

pub returns-then-r-gt254 : goal.returns-then-r-gt254
unfolding typed_cell choose
returns-then-r-gt254 c = search tests

pub returns : goal.returns
unfolding typed_cell choose
returns c = search tests
