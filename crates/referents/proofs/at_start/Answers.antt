use mathlib.Core.Path.{sym, ◌∙◌}
use Rattle.prelude.proofs.Choice.{also_first, also_right}
use Rattle.referents.proofs.at_start.Goals as goal

pub returns-then-marked : goal.returns-then-marked
returns-then-marked c = sym (also_first _ (sym c.marked.ensures ∙ c.if-marked.true))

pub returns-else-marked : goal.returns-else-marked
returns-else-marked c = c.if-marked.false ∙ sym (also_right _ (sym c.marked.ensures ∙ c.if-marked.false))
