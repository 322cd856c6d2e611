use mathlib.Core.Path.{refl, sym}
use Prim.Native.Nat.{◌+◌, ◌<◌}
use native.Mathlib.Omega.{arith}
use borrow.Author.Rules.{rules}
use lib.IntN.{pos}
use lib.ListN.{length, get_or, length-set}
use Rattle.values.proofs.Numbers.{plain64}
use Rattle.semantics.specs.Memory.{part_at}
use Rattle.cells.proofs.Overwriting.{overwrite_none, copy_next}
use Rattle.cells.proofs.copy_down.Goals as goal

pub loop-i-init : goal.loop-i-init
unfolding part_at
loop-i-init c = (refl, sym (overwrite_none _ _))

pub loop-i-preserved : goal.loop-i-preserved
loop-i-preserved c =
    let (size, same) = c.loop-i.invariant in
    let z = get_or c.loop-i.store (c.args.from + c.loop-i.i) (pos 0) in
    let plain = plain64 z (search rules) in
    let more : c.args.from + c.loop-i.i < length c.args.store.now = omega (arith, c.requires.0) in
    (simp length-set size, rw (plain, same) (copy_next _ _ _ _ (pos 0) more c.requires.1))
