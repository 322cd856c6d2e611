use borrow.Author.Rules.{rules}
use Rattle.image.specs.Rows.{rows_of}
use Rattle.image.proofs.rows_of.Goals as goal

pub returns : goal.returns
unfolding rows_of
returns c = search rules
