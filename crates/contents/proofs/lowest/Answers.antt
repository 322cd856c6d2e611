use borrow.Author.Tests.{eq-eqb, ne_eqb}
use Rattle.prelude.specs.Choice.{choose}
use Rattle.contents.specs.Kinds.{lowest}
use Rattle.contents.proofs.lowest.Goals as goal

-- `contents::lowest` meets its contract.
pub returns-then-kind-eq1 : goal.returns-then-kind-eq1
unfolding lowest choose
returns-then-kind-eq1 c = rw (eq-eqb _ 1 c.if-kind-eq1.true)

pub returns : goal.returns
unfolding lowest choose
returns c = rw (ne_eqb _ 1 c.if-kind-eq1.false)
