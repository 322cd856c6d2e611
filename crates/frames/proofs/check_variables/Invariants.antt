use Rattle.frames.proofs.Scanning.{Passed}
use Rattle.frames.proofs.check_variables.Given as goal

abbrev pub invariant-loop-r : goal.invariant-loop-r
invariant-loop-r l = Passed l.t l.v l.r l.lower
