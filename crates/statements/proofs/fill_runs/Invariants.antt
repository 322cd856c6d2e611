use Rattle.statements.proofs.Running.{Written}
use Rattle.statements.proofs.fill_runs.Given as goal

abbrev pub invariant-loop-i : goal.invariant-loop-i
invariant-loop-i l = Written l.n l.initial.runs l.runs l.i l.run
