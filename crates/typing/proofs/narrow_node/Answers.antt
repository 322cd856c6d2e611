use Rattle.typing.specs.Typing.{narrow_node}
use Rattle.prelude.proofs.Choice.{choose_yes, choose_no}
use mathlib.Core.Path.{sym, ◌∙◌}
use Rattle.typing.proofs.narrow_node.Goals as goal

pub returns-then-narrows : goal.returns-then-narrows
unfolding narrow_node
returns-then-narrows c = sym (choose_yes _ _ _ (sym c.narrows.ensures ∙ c.if-narrows.true))

pub returns-else-narrows : goal.returns-else-narrows
unfolding narrow_node
returns-else-narrows c = sym (choose_no _ _ _ (sym c.narrows.ensures ∙ c.if-narrows.false))
