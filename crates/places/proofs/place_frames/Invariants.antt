use Rattle.places.specs.Filling.{held, Framed}
use Rattle.places.proofs.place_frames.Given as goal

abbrev pub invariant-loop-q : goal.invariant-loop-q
invariant-loop-q l = Framed (held l.initial.plan) l.v l.p l.q l.initial.plan l.plan
