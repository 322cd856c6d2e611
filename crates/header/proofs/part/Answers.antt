use Rattle.header.specs.Header.{part_of}
use Rattle.prelude.proofs.Choice.{tests}
use Rattle.prelude.specs.Choice.{choose, ◌also◌}
use Rattle.header.proofs.part.Goals as goal

pub returns-then-end-start : goal.returns-then-end-start
unfolding part_of choose ◌also◌
returns-then-end-start c = search tests

pub returns-then-image-end : goal.returns-then-image-end
unfolding part_of choose ◌also◌
returns-then-image-end c = search tests

pub returns : goal.returns
unfolding part_of choose ◌also◌
returns c = search tests
