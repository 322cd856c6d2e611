use Rattle.checker.proofs.Asking.{number_accepted, number_refused}
use mathlib.Core.Path.{sym, ◌∙◌}
use Rattle.door.proofs.door_check.Goals as goal

pub returns-in-Ok : goal.returns-in-Ok
returns-in-Ok c = sym (number_accepted _ (sym c.check.ensures ∙ c.in-Ok.is))

pub returns-in-Err : goal.returns-in-Err
returns-in-Err c = sym (number_refused _ (sym c.check.ensures ∙ c.in-Err.is))
