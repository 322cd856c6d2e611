use mathlib.Core.Path.{◌∙◌}
use Rattle.prelude.specs.Choice.{choose}
use Rattle.prelude.proofs.Choice.{tests}
use Rattle.relations.proofs.Fielding.{field_known}
use Rattle.designators.specs.Designators.{cell_by}
use Rattle.designators.proofs.node_cell.Goals as goal

pub returns-in-1 : goal.returns-in-1
unfolding cell_by choose
returns-in-1 c = c.typed_cell.ensures ∙ rw (c.row_at-variable.ensures, c.in-1.is)

pub returns-in-2 : goal.returns-in-2
unfolding cell_by choose
returns-in-2 c = let pre = c.requires in
    let d = c.type_below-d.ensures in
    let kind = c.in-2.is in
    c.field_cell.ensures ∙ rw (c.field.ensures, field_known _ _ _ pre.0 pre.1 _ _, d, kind)

pub returns-in-3 : goal.returns-in-3
unfolding cell_by choose
returns-in-3 c = let whole = c.type_below-whole.ensures in
    c.typed_cell-in-3.ensures ∙ rw (c.row_at-array.ensures, whole, c.in-3.is)

pub returns-in-4 : goal.returns-in-4
unfolding cell_by choose
returns-in-4 c = c.typed_cell-in-4.ensures ∙ rw c.in-4.is

pub returns-in_default : goal.returns-in_default
unfolding cell_by choose
returns-in_default c = search tests
