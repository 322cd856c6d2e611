use Rattle.semantics.specs.Finding.{test_of}
use Rattle.finding.proofs.type_test.Goals as goal

pub returns : goal.returns
unfolding test_of
returns c = rw c.extends.ensures
