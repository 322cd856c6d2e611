use Rattle.image.specs.Rows.{word_at}
use Rattle.image.proofs.word_at.Goals as goal

pub returns : goal.returns
unfolding word_at
returns c = cc
