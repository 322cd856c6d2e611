use mathlib.Core.Path.{sym, ◌∙◌}
use Rattle.values.proofs.Numbers.{plain32}
use Rattle.machine.specs.Stopping.{stop_by}
use Rattle.machine.proofs.Along.{stop_other}
use borrow.Author.Rules.{rules}
use Rattle.machine.proofs.stop_by.Goals as goal

pub returns-in-Finished : goal.returns-in-Finished
unfolding stop_by
returns-in-Finished c = c.ended.ensures ∙ rw c.in-Finished.is

pub returns-in-Trapped : goal.returns-in-Trapped
unfolding stop_by
returns-in-Trapped c = c.ended-in-Trapped.ensures ∙ rw (c.in-Trapped.is, c.trap_number.ensures, plain32 c.in-Trapped.z (search rules))

pub returns-in_default : goal.returns-in_default
returns-in_default c = c.ended-in_default.ensures ∙ sym (stop_other _ c.in_default.in_default-own.keys3 _ _ _)
