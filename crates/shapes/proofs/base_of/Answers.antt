use mathlib.Core.Path.{sym}
use Rattle.shapes.specs.Forms.{base_of}
use Rattle.shapes.proofs.Rows.{form_record, no_record}
use Rattle.shapes.proofs.base_of.Goals as goal

pub returns-then-row-eq4 : goal.returns-then-row-eq4
unfolding base_of
returns-then-row-eq4 c = rw (form_record c.args.row c.if-row-eq4.true)

pub returns-else-row-eq4 : goal.returns-else-row-eq4
returns-else-row-eq4 c = sym (no_record c.args.row c.if-row-eq4.false).0
