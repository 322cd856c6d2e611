use Rattle.header.specs.Header.{table_from}
use Rattle.prelude.proofs.Choice.{tests}
use Rattle.prelude.specs.Choice.{choose}
use Rattle.header.proofs.table_from.Goals as goal

pub returns-then-image-at : goal.returns-then-image-at
unfolding table_from choose
returns-then-image-at c = search tests

pub returns-then-n-low : goal.returns-then-n-low
unfolding table_from choose
returns-then-n-low c = search (tests, ← c.number_at-n.ensures)

pub returns-then-high-n : goal.returns-then-high-n
unfolding table_from choose
returns-then-high-n c = search (tests, ← c.number_at-n.ensures)

pub returns-then-image-end : goal.returns-then-image-end
unfolding table_from choose
returns-then-image-end c = search (tests, ← c.number_at-n.ensures)

pub returns : goal.returns
unfolding table_from choose
returns c = search (tests, ← c.number_at-n.ensures)
