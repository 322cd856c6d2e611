use borrow.Author.Tests.{lt-ltb}
use Rattle.image.specs.Rows.{row_at, rows_of}
use Rattle.prelude.proofs.Choice.{tests}
use Rattle.prelude.specs.Choice.{choose}
use Rattle.image.proofs.row_at.Goals as goal

pub returns-then-t-i : goal.returns-then-t-i
unfolding row_at rows_of choose
returns-then-t-i c = search tests

pub returns : goal.returns
unfolding row_at rows_of choose
returns c = rw (lt-ltb _ _ c.if-t-i.false) cc
