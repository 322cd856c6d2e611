use Rattle.image.specs.Rows.{row_at}
use mathlib.Core.Path.{◌∙◌, ap}
use native.Mathlib.Omega.{arith}
use Prim.Native.Nat.{◌+◌, ◌≤◌}
use lib.ListN.{get_or, length-set}
use Rattle.shapes.specs.Forms.{of_base}
use Rattle.sizes.specs.Cells.{INHERITED}
use Rattle.types.specs.Filling.{OffsetsFit}
use Rattle.types.proofs.Planning.{few_inherited, inherited_is, offsets_fit, plan_next, rest_next}
use Rattle.types.proofs.plan_row.Goals as goal

pub inherited-above-requires : goal.inherited-above-requires
inherited-above-requires c = let few : of_base 0 (λ b. get_or c.args.plan.now (INHERITED + b) 0) c.base_of-base.result ≤ 65535 =
    rw c.base_of-base.ensures (few_inherited _ _ _ _ _ _ _ c.requires) in
    few

pub plan_offsets-requires : goal.plan_offsets-requires
plan_offsets-requires c = let base = c.base_size-at.ensures ∙ ap (λ a. of_base 0 (λ r. get_or c.args.plan.now r 0) a) c.base_of-base.ensures in
    let fit : OffsetsFit c.args.f.now c.args.plan.now c.args.used c.claimed-own.result c.base_size-at.result =
    rw (c.claimed-own.ensures, base) (offsets_fit _ _ _ _ _ _ _ c.requires) in
    fit

pub bounds-plan-r-2 : goal.bounds-plan-r-2
bounds-plan-r-2 c = let same = c.plan_offsets.ensures.cells in
    let s = c.requires in
    simp length-set (omega arith)

pub returns : goal.returns
returns c = let row_base = c.base_of-base.ensures in
    let base = c.base_size-at.ensures
    ∙ ap (λ a. of_base 0 (λ r. get_or c.args.plan.now r 0) a) row_base in
    let places = rw (c.claimed-own.ensures, base) at c.plan_offsets.ensures in
    let count = c.inherited-above.ensures
    ∙ ap (λ a. of_base 0 (λ b. get_or c.args.plan.now (INHERITED + b) 0 + (row_at c.args.t.now b).c) a) row_base
    ∙ inherited_is _ _ _ _ _ _ _ c.requires in
    record { plan = plan_next _ _ _ _ _ _ _ c.requires _ _ places count; rest = rest_next _ _ _ _ _ _ _ c.requires _ _ places count }
