use mathlib.Core.Path.{◌∙◌}
use borrow.Author.Tests.{ne_eqb}
use Rattle.prelude.specs.Choice.{choose}
use Rattle.values.specs.Values.{cell_of}
use Rattle.values.proofs.Numbers.{plain64}
use Rattle.values.proofs.cell.Goals as goal

pub returns-in-0 : goal.returns-in-0
unfolding cell_of choose
returns-in-0 c = c.boolean_cell.ensures ∙ rw (plain64 _ c.ranges.z, c.in-0.is)

pub returns-in-1 : goal.returns-in-1
unfolding cell_of choose
returns-in-1 c = c.integer_cell.ensures ∙ rw (plain64 _ c.ranges.z, c.in-1.is)

pub returns-in-2 : goal.returns-in-2
unfolding cell_of choose
returns-in-2 c = c.set_cell.ensures ∙ rw (plain64 _ c.ranges.z, c.in-2.is)

pub returns-in_default : goal.returns-in_default
unfolding cell_of choose
returns-in_default c = let m = c.in_default.in_default-own.rest in rw (ne_eqb _ 0 m.0.0.1, ne_eqb _ 1 m.0.1, ne_eqb _ 2 m.1)
