use Rattle.places.proofs.Counting.{Counted}
use Rattle.places.proofs.first_variables.Given as goal

abbrev pub invariant-loop-q : goal.invariant-loop-q
invariant-loop-q l = Counted l.v l.p l.initial.firsts l.firsts l.first l.q
