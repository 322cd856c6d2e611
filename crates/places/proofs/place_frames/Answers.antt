use native.Mathlib.Omega.{arith}
use Rattle.places.proofs.Framing.{framed_none, run_fits, run_rows, framed_more}
use Rattle.places.proofs.place_frames.Goals as goal

pub loop-q-init : goal.loop-q-init
loop-q-init c = framed_none _ _ _ _

pub place_run-size-requires : goal.place_run-size-requires
place_run-size-requires c =
    let framed = c.loop-q.invariant in
    let fit = c.requires in
    let more = rw c.rows_of-n.ensures at c.loop-q-test.true in
    let rows = run_rows _ _ _ _ _ fit framed more _ c.row_at-row.ensures _ c.cell-first.ensures in
    (run_fits _ _ _ _ _ fit framed more, rows, omega arith)

pub loop-q-preserved : goal.loop-q-preserved
loop-q-preserved c =
    let framed = c.loop-q.invariant in
    let fit = c.requires in
    let more = rw c.rows_of-n.ensures at c.loop-q-test.true in
    let first = c.cell-first.ensures in
    let run = c.place_run-size.ensures in
    framed_more _ _ _ _ _ fit framed more _ c.row_at-row.ensures _ first _ _ run.places run.value
