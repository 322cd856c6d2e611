use lib.ListN.{get_or-eq_default}
use Rattle.std.proofs.lemmas.List.{get_or_default}
use Rattle.owners.specs.Owners.{span_in}
use Rattle.owners.proofs.span_at.Goals as goal

pub returns-then-k-spans : goal.returns-then-k-spans
unfolding span_in
returns-then-k-spans c = get_or_default _ _ _ _ c.if-k-spans.true

pub returns : goal.returns
unfolding span_in
returns c = search get_or-eq_default
