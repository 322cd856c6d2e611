use mathlib.Core.Path.{◌≡◌}
use native.Mathlib.Omega.{arith}
use Rattle.image.specs.Rows.{rows_of}
use Rattle.names.specs.Names.{names_from}
use Rattle.names.proofs.Naming.{named_none, named_next}
use Rattle.names.proofs.name_statements.Goals as goal

pub loop-i-init : goal.loop-i-init
unfolding names_from
loop-i-init c = named_none _

pub loop-i-preserved : goal.loop-i-preserved
loop-i-preserved c =
    named_next _ _ c.loop-i.invariant c.name_statement.ensures (rw c.row_at.ensures)

pub returns : goal.returns
returns c =
    let l = c.loop-i in
    let rows = c.rows_of-i-end.ensures in
    let all : l.i ≡ rows_of c.args.s.now = omega arith in
    rw all at l.invariant
