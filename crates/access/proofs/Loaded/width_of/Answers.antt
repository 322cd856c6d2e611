use mathlib.Core.Path.{sym, ◌∙◌}
use Rattle.access.proofs.Bounds.{variable_typed}
use Rattle.places.proofs.Rooms.{width_var, width_other}
use Rattle.access.proofs.Loaded.width_of.Goals as goal

pub returns-then-row-eq3 : goal.returns-then-row-eq3
returns-then-row-eq3 c = sym (width_var _ _ _ (rw c.variable_at-row.ensures at c.if-row-eq3.true))

pub size_of-requires : goal.size_of-requires
size_of-requires c =
    rw c.variable_at-row.ensures (variable_typed c.args.self.now.planned _ c.requires)

pub returns : goal.returns
returns c =
    let row = c.variable_at-row.ensures in
    c.size_of.ensures ∙ rw row (sym (width_other _ _ _ (rw row at c.if-row-eq3.false)))
