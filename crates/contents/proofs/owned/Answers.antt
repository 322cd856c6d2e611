use Rattle.prelude.specs.Choice.{choose}
use Rattle.prelude.proofs.Choice.{tests}
use Rattle.contents.specs.Kinds.{owned}
use Rattle.contents.proofs.owned.Goals as goal

-- `contents::owned` meets its contract: the tests are those of the definition.
pub returns-then-k-eq-MIXED : goal.returns-then-k-eq-MIXED
unfolding owned choose
returns-then-k-eq-MIXED c = search tests

pub returns-else-k-eq-MIXED : goal.returns-else-k-eq-MIXED
unfolding owned choose
returns-else-k-eq-MIXED c = search tests
