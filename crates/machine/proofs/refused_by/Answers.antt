use mathlib.Core.Path.{◌∙◌}
use Rattle.checker.specs.Check.{refusal_of, row_of}
use Rattle.machine.proofs.refused_by.Goals as goal

pub returns-in-Ok : goal.returns-in-Ok
unfolding refusal_of row_of
returns-in-Ok c = c.refused.ensures ∙ rw c.in-Ok.is

pub returns-in-Err : goal.returns-in-Err
unfolding refusal_of row_of
returns-in-Err c = c.refused-in-Err.ensures ∙ rw c.in-Err.is
