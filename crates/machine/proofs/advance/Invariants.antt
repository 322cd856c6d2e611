use Rattle.semantics.specs.Running.{program_of}
use Rattle.calling.specs.Showing.{state_of}
use Rattle.machine.proofs.Along.{Along}
use Rattle.machine.proofs.advance.Given as goal

-- `machine::advance` meets its contract: step by step, until the last.
abbrev pub invariant-loop-k : goal.invariant-loop-k
invariant-loop-k l =
    Along (program_of l.loaded.image.now) l.input l.n l.done l.first (state_of l.initial.s l.initial.store l.initial.output)
    (state_of l.s l.store l.output) l.k l.mark
