use Rattle.image.specs.Rows.{number_at}
use Rattle.image.proofs.number_at.Goals as goal

pub returns : goal.returns
unfolding number_at
returns c = c.from_be_bytes.ensures
