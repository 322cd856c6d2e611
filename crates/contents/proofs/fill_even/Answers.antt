use native.Mathlib.Omega.{arith}
use Rattle.contents.proofs.Evens.{fill_next}
use Rattle.contents.proofs.fill_even.Goals as goal

pub loop-r-preserved : goal.loop-r-preserved
loop-r-preserved c =
    let l = c.loop-r in
    let p = c.requires in
    let rows = c.rows_of-rows.ensures in
    fill_next _ _ _ _ _ _ _ p.1 (omega (arith, rows)) (omega (arith, rows, p.2)) l.invariant
    c.row_at-row.ensures c.type_kind.ensures
