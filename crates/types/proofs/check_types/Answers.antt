use mathlib.Core.Path.{◌≡◌, sym, ◌∙◌}
use native.Mathlib.Omega.{arith}
use Rattle.types.proofs.Checking.{sofar_none, used_small, shape_bad, size_bad, ready, sofar_next}
use Rattle.types.proofs.Checking.{fields_bad, fields_good}
use Rattle.types.proofs.check_types.Goals as goal

pub loop-r-init : goal.loop-r-init
loop-r-init c = let s = c.requires in sofar_none _ _ _ s.0 s.1 s.2

pub shape_kept-requires : goal.shape_kept-requires
shape_kept-requires c = let l = c.loop-r in (omega (arith, used_small _ _ _ _ _ _ l.invariant), l.invariant.few_fields)

pub returns-then-not-shape_kept : goal.returns-then-not-shape_kept
returns-then-not-shape_kept c = let l = c.loop-r in
    let more = rw c.rows_of-types.ensures at c.loop-r-test.true in
    let all = shape_bad _ _ _ _ _ _ l.invariant more _ c.row_at-row.ensures (sym c.shape_kept.ensures ∙ c.if-not-shape_kept.true) in record { value = all.0; plan = all.1.0; rest = all.1.1 }

pub returns-then-size-gt4096 : goal.returns-then-size-gt4096
returns-then-size-gt4096 c = let l = c.loop-r in
    let more = rw c.rows_of-types.ensures at c.loop-r-test.true in
    let shape = sym c.shape_kept.ensures ∙ c.if-not-shape_kept.false in
    let all = size_bad _ _ _ _ _ _ l.invariant more _ c.row_at-row.ensures shape _ c.type_size-size.ensures c.if-size-gt4096.true in record { value = all.0; plan = all.1.0; rest = all.1.1 }

pub plan_row-requires : goal.plan_row-requires
plan_row-requires c = let l = c.loop-r in
    let more = rw c.rows_of-types.ensures at c.loop-r-test.true in
    let shape = sym c.shape_kept.ensures ∙ c.if-not-shape_kept.false in
    ready _ _ _ _ _ _ l.invariant more _ c.row_at-row.ensures shape _ c.type_size-size.ensures c.if-size-gt4096.false

pub overflow_add-used : goal.overflow_add-used
overflow_add-used c = let l = c.loop-r in omega (arith, used_small _ _ _ _ _ _ l.invariant)

pub loop-r-preserved : goal.loop-r-preserved
loop-r-preserved c = let l = c.loop-r in
    let more = rw c.rows_of-types.ensures at c.loop-r-test.true in
    let shape = sym c.shape_kept.ensures ∙ c.if-not-shape_kept.false in
    sofar_next _ _ _ _ _ _ l.invariant more _ c.row_at-row.ensures shape _ c.type_size-size.ensures c.if-size-gt4096.false
    _ _ c.claimed.ensures c.plan_row.ensures.plan c.plan_row.ensures.rest

pub returns-then-used-rows_of : goal.returns-then-used-rows_of
returns-then-used-rows_of c = let l = c.loop-r in
    let done = rw c.rows_of-types.ensures at c.loop-r-test.false in
    let all = fields_good _ _ _ _ _ _ l.invariant done (c.if-used-rows_of.true ∙ c.rows_of.ensures) in record { value = all.0; plan = all.1.0; rest = all.1.1 }

pub returns : goal.returns
returns c = let l = c.loop-r in
    let done = rw c.rows_of-types.ensures at c.loop-r-test.false in
    let end : l.r ≡ c.rows_of-types.result = omega arith in
    let all = rw end at (fields_bad _ _ _ _ _ _ l.invariant done (λ e. c.if-used-rows_of.false (e ∙ sym c.rows_of.ensures))) in record { value = all.0; plan = all.1.0; rest = all.1.1 }
