use Rattle.semantics.specs.Running.{program_of}
use Rattle.calling.proofs.Arguments.{Along}
use Rattle.calling.proofs.pass_all.Given as goal

-- `calling::pass_all` meets its contract: a loop over the arguments.
abbrev pub invariant-loop-j : goal.invariant-loop-j
invariant-loop-j l = Along (program_of l.loaded.image.now) l.k l.a l.n l.s l.initial.store l.store l.j
