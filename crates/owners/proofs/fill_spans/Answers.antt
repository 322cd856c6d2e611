use Rattle.owners.proofs.Spanning.{spans_next}
use native.Mathlib.Omega.{arith}
use Rattle.owners.proofs.fill_spans.Goals as goal

pub loop-r-preserved : goal.loop-r-preserved
loop-r-preserved c =
    let room = c.requires.2 in
    spans_next _ _ _ _ _ c.loop-r.invariant (omega (arith, c.rows_of-r-end.ensures)) _ c.row_at-row.ensures _
    c.node_span.ensures
