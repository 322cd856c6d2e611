use Rattle.image.specs.declared.Row.{Row}
use Rattle.image.specs.Rows.{row_at}
use lib.ListN.{get_or}
use Prim.Native.Nat.{◌+◌}
use mathlib.Core.Path.{sym, ◌∙◌, ap}
use Rattle.shapes.proofs.Rows.{of_no_base, of_base_lem}
use Rattle.sizes.specs.Cells.{INHERITED}
use native.Mathlib.Omega.{arith}
use Rattle.types.proofs.inherited.Goals as goal

pub returns-then-a-eq0 : goal.returns-then-a-eq0
returns-then-a-eq0 c = sym (of_no_base _ _ _ c.if-a-eq0.true)

pub overflow_add-result : goal.overflow_add-result
overflow_add-result c = let on = of_base_lem 0 (λ b. get_or c.args.plan.now (INHERITED + b) 0) c.args.a (omega arith) in
    let low = rw on at c.requires in
    omega (arith, low, c.cell-above.ensures)

pub returns : goal.returns
returns c = let own = ap (λ (x : Row). x.c) c.row_at-row.ensures in
    sym (of_base_lem 0 (λ b. get_or c.args.plan.now (INHERITED + b) 0 + (row_at c.args.t.now b).c) c.args.a
    (omega arith)
    ∙ rw (← c.cell-above.ensures, ← own))
