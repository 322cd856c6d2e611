use Rattle.rules.specs.Rules.{halt_rule}
use Rattle.prelude.proofs.Choice.{also_left, also_pass}
use mathlib.Core.Path.{sym, ◌∙◌}
use Rattle.rules.proofs.Body.halt_rule.Goals as goal

pub returns-then-type_rule : goal.returns-then-type_rule
unfolding halt_rule
returns-then-type_rule c = rw (← c.row_at.ensures) (sym (also_pass _ (sym c.type_rule.ensures ∙ c.if-type_rule.true)))

pub returns-else-type_rule : goal.returns-else-type_rule
unfolding halt_rule
returns-else-type_rule c = c.if-type_rule.false ∙ sym (also_left _ (sym c.type_rule.ensures ∙ c.if-type_rule.false))
