use Rattle.cases_machine.specs.Records.{Inputs}
use Rattle.cases_machine.proofs.take_inputs.Given as goal

-- after i turns i inputs are there
abbrev pub invariant-loop-i : goal.invariant-loop-i
invariant-loop-i l = Inputs l.bytes l.i l.input
