use Rattle.image.specs.declared.Row.{Row}
use mathlib.Core.Path.{◌∙◌, ap}
use Prim.Native.Nat.{◌+◌}
use native.Mathlib.Omega.{arith}
use lib.ListN.{get_or}
use Rattle.shapes.proofs.Rows.{sum_step, sum_end}
use Rattle.sizes.proofs.own_size.Goals as goal

pub loop-i-preserved : goal.loop-i-preserved
loop-i-preserved c = let a = c.args in
    let l = c.loop-i in
    let size = c.cell.ensures ∙ ap (λ (x : Row). get_or a.plan.now x.a 0) c.row_at.ensures in
    let step = sum_step a.f.now l.i (a.k + a.n) (λ r. get_or a.plan.now r 0) c.loop-i-test.true in
    (omega arith, omega (arith, step, size, l.invariant.1))

pub returns-clause-value : goal.returns-clause-value
returns-clause-value c = let a = c.args in
    let l = c.loop-i in
    omega (arith, sum_end a.f.now l.i (a.k + a.n) (λ r. get_or a.plan.now r 0) c.loop-i-test.false, l.invariant.1)
