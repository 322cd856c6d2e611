use mathlib.Core.Path.{◌≡◌, refl, sym}
use Prim.Native.Nat.{◌+◌, ◌-◌, ◌≤◌, ◌<◌}
use native.Mathlib.Omega.{arith}
use borrow.Author.Rules.{rules}
use lib.IntN.{pos}
use lib.ListN.{length, get_or, length-set}
use Rattle.values.proofs.Numbers.{plain64}
use Rattle.semantics.specs.Memory.{part_at}
use Rattle.cells.proofs.Overwriting.{overwrite_none, copy_before}
use Rattle.cells.proofs.copy_up.Goals as goal

pub loop-left-init : goal.loop-left-init
unfolding part_at
loop-left-init c =
    let none : c.args.n - c.args.n ≡ 0 = omega arith in
    (refl, rw none (sym (overwrite_none _ _)))

pub loop-left-preserved : goal.loop-left-preserved
loop-left-preserved c =
    let (size, same) = c.loop-left.invariant in
    let left = c.loop-left.left in
    let z = get_or c.loop-left.store (c.args.from + (left - 1)) (pos 0) in
    let plain = plain64 z (search rules) in
    let source : c.args.from + left ≡ c.args.from + (left - 1) + 1 = omega arith in
    let target : c.args.to + left ≡ c.args.to + (left - 1) + 1 = omega arith in
    let count : c.args.n - (left - 1) ≡ c.args.n - left + 1 = omega arith in
    let room : c.args.to + (left - 1) + (c.args.n - left) < length c.args.store.now =
    omega (arith, c.requires.0) in
    let low : c.args.from + (left - 1) ≤ c.args.to + (left - 1) = omega (arith, c.requires.1) in (
      simp length-set size,
      rw (plain, rw (source, target) at same, count) (copy_before _ _ _ _ (pos 0) room low),
    )
