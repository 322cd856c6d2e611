use mathlib.Core.Path.{refl, sym, ◌∙◌}
use native.Mathlib.Omega.{arith}
use Rattle.relations.proofs.Climbing.{extends_same, extends_none, extends_high, extends_low}
use Rattle.relations.proofs.extends.Goals as goal

pub loop-at-init : goal.loop-at-init
loop-at-init c = (omega arith, refl)

pub returns-then-base-eq0 : goal.returns-then-base-eq0
returns-then-base-eq0 c = let l = c.loop-at in
    sym (l.invariant.1 ∙ extends_none _ _ _ c.loop-at-test.true c.row_at-row.ensures c.base_of-base.ensures c.if-base-eq0.true)

pub overflow_sub-next : goal.overflow_sub-next
overflow_sub-next c = omega arith

pub returns-then-at-next : goal.returns-then-at-next
returns-then-at-next c = let l = c.loop-at in
    sym (l.invariant.1 ∙ extends_high _ _ _ c.loop-at-test.true c.row_at-row.ensures c.base_of-base.ensures (omega arith) c.if-at-next.true)

pub loop-at-smaller : goal.loop-at-smaller
loop-at-smaller c = omega arith

pub loop-at-preserved : goal.loop-at-preserved
loop-at-preserved c = let l = c.loop-at in
    (omega arith, l.invariant.1 ∙ extends_low _ _ _ c.loop-at-test.true c.row_at-row.ensures c.base_of-base.ensures (omega arith) c.if-at-next.false)

pub returns : goal.returns
returns c = let l = c.loop-at in
    sym (l.invariant.1 ∙ extends_same _ _ _ c.loop-at-test.false)
