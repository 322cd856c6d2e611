use Rattle.types.proofs.Checking.{Sofar}
use Rattle.types.proofs.check_types.Given as goal

abbrev pub invariant-loop-r : goal.invariant-loop-r
invariant-loop-r l = Sofar l.version l.t l.f l.initial.plan l.plan l.r l.used
