use mathlib.Core.Path.{◌≡◌, refl}
use Prim.Native.Nat.{◌+◌, ◌-◌}
use native.Mathlib.Omega.{arith}
use lib.IntN.{pos}
use lib.ListN.{length}
use Rattle.semantics.specs.Memory.{part_at}
use Rattle.cells.proofs.Overwriting.{part_length, same_next, same_part}
use Rattle.cells.proofs.zero.Goals as goal

pub loop-cell-init : goal.loop-cell-init
loop-cell-init c = refl

pub loop-cell-preserved : goal.loop-cell-preserved
loop-cell-preserved c = let l = c.loop-cell in
    rw l.invariant (same_next _ l.cell-index (pos 0) c.loop-cell-test.true)

pub returns : goal.returns
unfolding part_at
returns c =
    let a = c.args in
    let l = c.loop-cell in
    let count : a.a + a.n - a.a ≡ a.n = omega arith in
    let size : length (part_at a.store.now a.a a.n) ≡ a.n = part_length a.store.now a.a a.n c.requires in
    let all : l.cell-index ≡ a.n = omega (arith, size) in
    rw count (same_part a.store.now l.cell-items a.a a.n (pos 0) c.requires (rw (count, all) at l.invariant))
