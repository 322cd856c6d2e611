use Rattle.relations.proofs.Fielding.{field_known}
use Rattle.typing.specs.Typing.{field_node}
use Rattle.typing.proofs.Giving.{typed_known, missing_type, field_type_lem}
use mathlib.Core.Path.{sym, ◌∙◌}
use Rattle.typing.proofs.field_node.Goals as goal

pub returns-in_err-part : goal.returns-in_err-part
unfolding field_node
returns-in_err-part c = let pre = c.requires in
    c.from_residual-in_err-part.ensures
    ∙ sym (typed_known _ _ (sym c.in_ok-whole.ensures)
    ∙ missing_type _ (sym (c.in_err-part.ensures ∙ field_known _ _ _ pre.0 pre.1 _ _)))

pub returns : goal.returns
unfolding field_node
returns c = let pre = c.requires in
    sym (typed_known _ _ (sym c.in_ok-whole.ensures)
    ∙ field_type_lem _ (sym (c.in_ok-part.ensures ∙ field_known _ _ _ pre.0 pre.1 _ _)))
