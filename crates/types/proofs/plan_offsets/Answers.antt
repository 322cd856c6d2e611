use lib.ListN.{get_or}
use Rattle.image.specs.declared.Row.{Row}
use Rattle.shapes.proofs.Rows.{sum_end}
use Rattle.types.proofs.Offsetting.{Turn, at_turn, offsets_none, offsets_next}
use mathlib.Core.Path.{◌≡◌, ◌∙◌, ap}
use Prim.Native.Nat.{◌-◌}
use native.Mathlib.Omega.{arith}
use Rattle.types.proofs.plan_offsets.Goals as goal
use Rattle.types.proofs.plan_offsets.Goals.{After-cell-size}

-- what is known once a field's size is read
turn : (c : After-cell-size) → let l = c.loop-i in
    Turn c.args.f.now c.args.k c.args.at c.args.plan.now l.i l.place c.cell-size.result l.plan
turn c =
    let c = c in
    let l = c.loop-i in
    at_turn c.args.f.now c.args.k c.args.n c.args.at c.args.plan.now l.i l.place c.cell-size.result l.plan
    c.requires (omega arith) c.loop-i-test.true l.invariant.1 l.invariant.0
    (c.cell-size.ensures ∙ ap (λ (x : Row). get_or l.plan x.a 0) c.row_at.ensures)

pub loop-i-init : goal.loop-i-init
loop-i-init c = let a = c.args in
    let none : a.k - a.k ≡ 0 = omega arith in
    let first = sum_end a.f.now a.k a.k (λ r. get_or a.plan.now r 0) (omega arith) in
    (omega (arith, first), rw none (offsets_none _ _ _ _))

pub bounds-plan-i : goal.bounds-plan-i
bounds-plan-i c = (turn (goal.at.bounds-plan-i c).After-cell-size).room

pub overflow_add-place : goal.overflow_add-place
overflow_add-place c = record { fits = omega (arith, (turn (goal.at.overflow_add-place c).After-cell-size).small) }

pub loop-i-preserved : goal.loop-i-preserved
loop-i-preserved c = let l = c.loop-i in
    ((turn (goal.at.loop-i-preserved c).After-cell-size).next, offsets_next _ _ _ _ l.i l.place l.plan (omega arith) l.invariant.1 (turn (goal.at.loop-i-preserved c).After-cell-size).room l.invariant.0)

pub returns : goal.returns
returns c = let s = c.args in
    let l = c.loop-i in
    let all : l.i - s.k ≡ s.n = omega arith in
    rw all at l.invariant.1
