use borrow.Author.Rules.{rules}
use Rattle.image.specs.Versions.{scalar_rows}
use Rattle.image.proofs.scalar_rows.Goals as goal

pub returns : goal.returns
unfolding scalar_rows
returns c = search rules
