use borrow.Author.Rules.{rules}
use borrow.Author.Tests.{lt-ltb}
use Rattle.prelude.specs.Choice.{choose}
use Rattle.image.specs.Rows.{row_at, rows_of}
use Rattle.image.proofs.a_at.Goals as goal

-- `image::a_at` meets its contract: a row that is there has all of its bytes.
pub overflow_mul-i : goal.overflow_mul-i
unfolding rows_of
overflow_mul-i c = search rules

pub overflow_add-i : goal.overflow_add-i
unfolding rows_of
overflow_add-i c = search rules

pub number_at-requires : goal.number_at-requires
unfolding rows_of
number_at-requires c = search rules

pub returns : goal.returns
unfolding row_at choose
returns c = rw (lt-ltb _ _ c.requires) c.number_at.ensures
