use Rattle.rules.specs.Rules.{type_rule}
use Rattle.prelude.proofs.Choice.{also_left, also_pass}
use mathlib.Core.Path.{sym, ◌∙◌}
use Rattle.rules.proofs.Body.type_rule.Goals as goal

pub returns-then-is_type : goal.returns-then-is_type
unfolding type_rule
returns-then-is_type c = c.is_owned.ensures ∙ sym (also_pass _ (sym c.is_type.ensures ∙ c.if-is_type.true))

pub returns-else-is_type : goal.returns-else-is_type
unfolding type_rule
returns-else-is_type c = c.if-is_type.false ∙ sym (also_left _ (sym c.is_type.ensures ∙ c.if-is_type.false))
