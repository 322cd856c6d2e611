use Rattle.frames.proofs.Claiming.{Claimed}
use Rattle.frames.proofs.check_procedures.Given as goal

abbrev pub invariant-loop-r : goal.invariant-loop-r
invariant-loop-r l = Claimed l.v l.p l.s l.first l.r
