use Rattle.prelude.specs.Bits.{bit_of}
use borrow.Author.Rules.{rules}
use Rattle.objects.proofs.marked.Goals as goal

pub returns : goal.returns
unfolding bit_of
returns c = search rules
