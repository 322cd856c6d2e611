use native.Mathlib.Omega.{arith}
use Rattle.shapes.proofs.Rows.{form_scalar, form_array, form_record, form_none}
use Rattle.contents.specs.Kinds.{even_by}
use Rattle.contents.proofs.type_kind.Goals as goal

pub returns-in-3 : goal.returns-in-3
unfolding even_by
returns-in-3 c =
    rw (form_array c.args.row c.in-3.is, ← c.kind_at-element.ensures)
    c.repeated.ensures

pub returns-in-4 : goal.returns-in-4
unfolding even_by
returns-in-4 c =
    rw (form_record c.args.row c.in-4.is, ← c.base_kind-base.ensures, ← c.own_kind-all.ensures)
    c.owned.ensures

pub returns-in-0-to-2 : goal.returns-in-0-to-2
unfolding even_by
returns-in-0-to-2 c = rw (form_scalar c.args.row (omega arith))

pub returns-in_default : goal.returns-in_default
unfolding even_by
returns-in_default c = rw (form_none c.args.row (omega arith))
