use Rattle.prelude.specs.Choice.{choose}
use Rattle.prelude.proofs.Choice.{tests}
use Rattle.contents.specs.Kinds.{repeated}
use Rattle.contents.proofs.repeated.Goals.{then-n-eq1-via-then-n-eq1, then-n-eq1-via-else-n-eq1+then-k-lt-PARTS}
use Rattle.contents.proofs.repeated.Goals as goal

-- `contents::repeated` meets its contract: the tests are those of the definition.
pub returns-then-n-eq1 : goal.returns-then-n-eq1
unfolding repeated choose
returns-then-n-eq1 c =
    elim c.then-n-eq1.branch [
      | then-n-eq1-via-then-n-eq1 w ↦ search tests
      | then-n-eq1-via-else-n-eq1+then-k-lt-PARTS w ↦ search tests
    ]

pub returns : goal.returns
unfolding repeated choose
returns c = search tests
