use borrow.Author.Rules.{rules}
use Rattle.image.specs.Versions.{monadics}
use Rattle.image.proofs.monadics.Goals as goal

pub returns : goal.returns
unfolding monadics
returns c = search rules
