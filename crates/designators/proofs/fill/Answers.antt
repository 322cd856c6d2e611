use mathlib.Core.Path.{◌≡◌, refl}
use Prim.Native.Nat.{suc, ◌+◌, ◌<◌}
use native.Mathlib.Omega.{arith}
use lib.ListN.{length}
use Rattle.prelude.proofs.Cells.{filled_next}
use Rattle.sizes.specs.Cells.{NODES}
use Rattle.places.proofs.Owning.{plan_kept}
use Rattle.designators.proofs.Filling.{cell_next}
use Rattle.designators.proofs.fill.Goals as goal

pub node_cell-requires : goal.node_cell-requires
node_cell-requires c = let filled = c.loop-r.invariant in
    let p = c.requires in
    (p.0, plan_kept _ _ _ _ (λ i h. filled.below i (omega arith)) p.0 p.2 p.3 p.1)

pub loop-r-preserved : goal.loop-r-preserved
loop-r-preserved c = let l = c.loop-r in
    let one : l.r + 1 ≡ suc l.r = omega arith in
    let cell = cell_next _ _ _ _ _ _ _ l.invariant c.row_at-row.ensures c.node_cell.ensures in
    let room : NODES + l.r < length l.plan = omega (arith, l.invariant.cells, c.requires.5, c.requires.4) in
    rw one (filled_next NODES l.r _ _ _ _ _ l.invariant refl room cell)
