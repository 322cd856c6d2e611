use Rattle.semantics.specs.Running.{program_of}
use Rattle.asking.specs.Passes.{value_test}
use Rattle.unwinding.proofs.Over.{Over}
use Rattle.resuming.proofs.Values.frames_hold.Given as goal

abbrev pub invariant-loop-q : goal.invariant-loop-q
invariant-loop-q l =
    Over l.self.loaded.image.now (λ older. value_test (program_of l.self.loaded.image.now)) l.self.store.now l.q l.base l.top l.p l.b

abbrev pub decreases-loop-q : goal.decreases-loop-q
decreases-loop-q l = l.b
