use Rattle.owners.proofs.Spanning.{join_is}
use Rattle.owners.proofs.Span.join.Goals as goal

pub returns : goal.returns
returns c = join_is _ _ _ _ c.min.ensures c.max.ensures
