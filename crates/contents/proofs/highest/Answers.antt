use Rattle.prelude.specs.Choice.{choose}
use Rattle.prelude.proofs.Choice.{tests}
use Rattle.contents.specs.Kinds.{highest}
use Rattle.contents.proofs.highest.Goals as goal

-- `contents::highest` meets its contract.
pub returns-in-0 : goal.returns-in-0
unfolding highest choose
returns-in-0 c = rw c.in-0.is

pub returns-in-1 : goal.returns-in-1
unfolding highest choose
returns-in-1 c = rw c.in-1.is

pub returns-in_default : goal.returns-in_default
unfolding highest choose
returns-in_default c = search tests
