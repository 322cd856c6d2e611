use Rattle.typing.proofs.Passing.{Filled}
use Rattle.typing.proofs.check_typing.Given as goal

abbrev pub invariant-loop-r : goal.invariant-loop-r
invariant-loop-r l = Filled l.t l.f l.v l.n l.initial.types l.types l.r
