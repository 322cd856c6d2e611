use Rattle.prelude.specs.Choice.{choose}
use Rattle.prelude.proofs.Choice.{tests}
use Rattle.designators.specs.Designators.{field_cell}
use Rattle.designators.proofs.field_cell.Goals.{then-offset-gt65535-via-then-offset-gt65535}
use Rattle.designators.proofs.field_cell.Goals.{then-offset-gt65535-via-else-offset-gt65535+then-declared-gt254}
use Rattle.designators.proofs.field_cell.Goals.{then-offset-gt65535-via-else-offset-gt65535+else-declared-gt254+then-d-gt254}
use Rattle.designators.proofs.field_cell.Goals as goal

pub returns-in_default : goal.returns-in_default
unfolding field_cell choose
returns-in_default c = rw c.in_default.is

pub returns-then-offset-gt65535 : goal.returns-then-offset-gt65535
unfolding field_cell choose
returns-then-offset-gt65535 c = elim c.then-offset-gt65535.branch [
  | then-offset-gt65535-via-then-offset-gt65535 w ↦ search (tests, c.in-Some.is)
  | then-offset-gt65535-via-else-offset-gt65535+then-declared-gt254 w ↦ search (tests, c.in-Some.is)
  | then-offset-gt65535-via-else-offset-gt65535+else-declared-gt254+then-d-gt254 w ↦ search (tests, c.in-Some.is)
]

pub returns : goal.returns
unfolding field_cell choose
returns c = search (tests, c.in-Some.is)
