use mathlib.Core.Path.{refl, sym, ◌∙◌}
use native.Mathlib.Omega.{arith}
use Rattle.relations.proofs.Climbing.{planned_other, planned_own_lem, planned_none, planned_high, planned_low}
use Rattle.relations.proofs.field.Goals as goal

pub loop-row-init : goal.loop-row-init
loop-row-init c = (omega arith, refl)

pub returns-then-row-ne4 : goal.returns-then-row-ne4
returns-then-row-ne4 c = let l = c.loop-row in
    sym (l.invariant.1 ∙ planned_other _ _ _ _ _ c.row_at-row.ensures c.if-row-ne4.true)

pub returns-then-inherited-sought : goal.returns-then-inherited-sought
returns-then-inherited-sought c = let l = c.loop-row in
    let held = c.cell-inherited.ensures in
    c.own_field.ensures
    ∙ sym (l.invariant.1 ∙ planned_own_lem _ _ _ _ _ c.row_at-row.ensures c.if-row-ne4.false (rw held at c.if-inherited-sought.true) ∙ rw (← held))

pub returns-then-row-eq0 : goal.returns-then-row-eq0
returns-then-row-eq0 c = let l = c.loop-row in
    let less = rw c.cell-inherited.ensures at c.if-inherited-sought.false in
    sym (l.invariant.1 ∙ planned_none _ _ _ _ _ c.row_at-row.ensures c.if-row-ne4.false less c.if-row-eq0.true)

pub returns-then-at-base : goal.returns-then-at-base
returns-then-at-base c = let l = c.loop-row in
    let less = rw c.cell-inherited.ensures at c.if-inherited-sought.false in
    sym (l.invariant.1 ∙ planned_high _ _ _ _ _ c.row_at-row.ensures c.if-row-ne4.false less (omega arith) (omega arith))

pub loop-row-preserved : goal.loop-row-preserved
loop-row-preserved c = let l = c.loop-row in
    let less = rw c.cell-inherited.ensures at c.if-inherited-sought.false in
    (omega arith, l.invariant.1 ∙ planned_low _ _ _ _ _ c.row_at-row.ensures c.if-row-ne4.false less (omega arith) (omega arith))
