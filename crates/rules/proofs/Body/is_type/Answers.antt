use Rattle.rules.proofs.Ruling.{no_type, type_is}
use mathlib.Core.Path.{sym, ◌∙◌}
use Rattle.rules.proofs.Body.is_type.Goals as goal

pub returns-in_default : goal.returns-in_default
returns-in_default c = sym (no_type _ _ (sym c.type_at.ensures ∙ c.in_default.is))

pub returns : goal.returns
returns c = sym (type_is _ _ (sym c.type_at.ensures ∙ c.in-Some.is))
