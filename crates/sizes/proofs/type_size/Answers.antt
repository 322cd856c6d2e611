use Rattle.shapes.specs.Sizes.{size_by}
use Rattle.shapes.proofs.Rows.{form_scalar, form_array, form_record, form_none}
use native.Mathlib.Omega.{arith}
use Rattle.sizes.proofs.type_size.Goals as goal

pub returns-in-3 : goal.returns-in-3
unfolding size_by
returns-in-3 c = rw (form_array c.args.row c.in-3.is, ← c.cell.ensures) c.array_size.ensures

pub returns-in-4 : goal.returns-in-4
unfolding size_by
returns-in-4 c = rw (form_record c.args.row c.in-4.is, ← c.base_size.ensures, ← c.own_size.ensures.value)

pub returns-in-0-to-2 : goal.returns-in-0-to-2
unfolding size_by
returns-in-0-to-2 c = rw (form_scalar c.args.row (omega arith))

pub returns-in_default : goal.returns-in_default
unfolding size_by
returns-in_default c = rw (form_none c.args.row (omega arith))
