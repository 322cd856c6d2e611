use borrow.Author.Rules.{rules}
use Rattle.sets.specs.Sets.{complement_of}
use Rattle.sets.proofs.complement.Goals as goal

-- `sets::complement` meets its contract: the bits turned over.
pub returns : goal.returns
unfolding complement_of
returns c = search rules
