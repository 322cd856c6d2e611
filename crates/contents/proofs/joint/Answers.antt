use Rattle.prelude.specs.Choice.{choose}
use Rattle.prelude.proofs.Choice.{tests}
use Rattle.contents.specs.Kinds.{joint}
use Rattle.contents.proofs.joint.Goals.{then-k-j-via-then-k-j, then-k-j-via-else-k-j+then-k-ge-EMPTY}
use Rattle.contents.proofs.joint.Goals as goal

-- `contents::joint` meets its contract: the tests are those of the definition.
pub returns-then-k-eq-EMPTY : goal.returns-then-k-eq-EMPTY
unfolding joint choose
returns-then-k-eq-EMPTY c = search tests

pub returns-then-j-eq-EMPTY : goal.returns-then-j-eq-EMPTY
unfolding joint choose
returns-then-j-eq-EMPTY c = search tests

pub returns-then-k-j : goal.returns-then-k-j
unfolding joint choose
returns-then-k-j c =
    elim c.then-k-j.branch [
      | then-k-j-via-then-k-j w ↦ search tests
      | then-k-j-via-else-k-j+then-k-ge-EMPTY w ↦ search tests
    ]

pub returns : goal.returns
unfolding joint choose
returns c = search tests
