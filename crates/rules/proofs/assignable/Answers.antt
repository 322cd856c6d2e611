use Rattle.rules.proofs.Ruling.{no_source, no_target, assignable_is}
use mathlib.Core.Path.{sym, ◌∙◌}
use Rattle.rules.proofs.assignable.Goals as goal

pub returns-in_default : goal.returns-in_default
returns-in_default c = sym (no_source _ _ _ c.in_default.is)

pub returns-in_default-target : goal.returns-in_default-target
returns-in_default-target c = sym (no_target _ _ _ c.in-Some.is c.in_default-target.is)

pub returns : goal.returns
returns c = c.extends.ensures ∙ sym (assignable_is _ _ _ c.in-Some.is c.in-Some-target.is)
