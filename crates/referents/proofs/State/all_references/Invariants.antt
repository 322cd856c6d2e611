use Rattle.semantics.specs.Running.{program_of}
use Rattle.asking.specs.Passes.{reference_test}
use Rattle.unwinding.proofs.Over.{Over}
use Rattle.referents.proofs.State.all_references.Given as goal

abbrev pub invariant-loop-q : goal.invariant-loop-q
invariant-loop-q l =
    Over l.self.loaded.image.now (reference_test (program_of l.self.loaded.image.now)) l.self.store.now l.q l.base l.self.top l.procedure l.at

abbrev pub decreases-loop-q : goal.decreases-loop-q
decreases-loop-q l = l.at
