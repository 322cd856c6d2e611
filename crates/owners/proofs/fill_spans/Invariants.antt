use Rattle.owners.specs.Owners.{span_of, Spans}
use Rattle.owners.proofs.fill_spans.Given as goal

abbrev pub invariant-loop-r : goal.invariant-loop-r
invariant-loop-r l = Spans (span_of l.v l.n) l.r l.initial.spans l.spans
