use Rattle.finding.specs.Missed.{lost}
use Rattle.finding.proofs.lost.Goals as goal

pub returns-in-Ok : goal.returns-in-Ok
unfolding lost
returns-in-Ok g c = rw c.in-Ok.is

pub returns-in-Err : goal.returns-in-Err
unfolding lost
returns-in-Err g c = rw c.in-Err.is
