use native.Mathlib.Omega.{arith}
use Rattle.objects.specs.Looking.{held}
use Rattle.objects.proofs.Joining.{field_more, field_end}
use Rattle.objects.proofs.field_edges.Goals as goal

pub loop-j-preserved : goal.loop-j-preserved
loop-j-preserved c = let l = c.loop-j in
    let a = c.args in (
      omega arith,
      λ deeper w m x edges lows cells words.
          field_more deeper (held a.plan.now) w edges lows
          (l.invariant.1 deeper w m x edges lows cells words) (omega arith) c.loop-j-test.true c.a_at-u.ensures
          c.cell-own.ensures c.across-first.ensures c.across-last.ensures,
    )

pub returns : goal.returns
returns c = let l = c.loop-j in
    let a = c.args in
    λ deeper w m x edges lows cells words.
    field_end deeper (held a.plan.now) w edges lows
    (l.invariant.1 deeper w m x edges lows cells words) c.loop-j-test.false
