use Rattle.typing.specs.Typing.{element_node}
use Rattle.typing.proofs.Giving.{typed_known, no_element, element_type_lem}
use mathlib.Core.Path.{sym, ◌∙◌}
use Rattle.typing.proofs.element_node.Goals as goal

pub returns-then-index-eq1 : goal.returns-then-index-eq1
unfolding element_node
returns-then-index-eq1 c =
    sym (typed_known _ _ (sym c.in_ok-whole.ensures) ∙ typed_known _ _ (sym c.in_ok-index.ensures)
    ∙ element_type_lem _ _ _ _ c.row_at-array.ensures c.if-array-eq3.true c.if-index-eq1.true)

pub returns-else-array-eq3 : goal.returns-else-array-eq3
unfolding element_node
returns-else-array-eq3 c =
    sym (typed_known _ _ (sym c.in_ok-whole.ensures) ∙ typed_known _ _ (sym c.in_ok-index.ensures)
    ∙ no_element _ _ _ _ c.row_at-array.ensures c.else-array-eq3.either)
