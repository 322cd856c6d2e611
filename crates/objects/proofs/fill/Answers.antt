use native.Mathlib.Omega.{arith}
use Rattle.objects.proofs.Looks.{edges_less}
use Rattle.objects.proofs.Deciding.{beyond_next, beyond_more}
use Rattle.objects.proofs.Joining.{edges_more}
use Rattle.objects.proofs.fill.Goals as goal

pub loop-r-preserved : goal.loop-r-preserved
loop-r-preserved c = let l = c.loop-r in
    let few = c.requires.0.few in
    let rows = c.rows_of-r-end.ensures in (
      beyond_next _ l.invariant.0,
      beyond_next _ l.invariant.1,
      λ w. edges_more (l.invariant.2 w) (omega (arith, few, rows, c.requires.1, l.invariant.0.cells))
          (omega (arith, few, rows, c.requires.2, l.invariant.1.cells)) (c.edges-x.ensures w (l.invariant.2 w)),
    )

pub returns : goal.returns
returns c = let l = c.loop-r in
    let rows = c.rows_of-r-end.ensures in
    record {
      all_edges = record { each = λ w. edges_less (omega (arith, rows)) (l.invariant.2 w) };
      starts = beyond_more (omega (arith, rows)) l.invariant.0;
      ends = beyond_more (omega (arith, rows)) l.invariant.1;
    }
