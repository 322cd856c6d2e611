use Rattle.std.proofs.Common.{◌≡◌, arith}
use Prim.Native.Nat.{suc}
use Rattle.prelude.specs.Choice.{◌also◌}
use Rattle.shapes.specs.Shapes.{base_kept}
use borrow.Author.Tests.{le-ltb, lt-ltb}
use Rattle.shapes.proofs.base_kept.Goals as goal

pub returns-in_default : goal.returns-in_default
unfolding base_kept
returns-in_default c = let none : c.args.a ≡ 0 = omega arith in rw none

pub returns-then-base-r : goal.returns-then-base-r
unfolding base_kept ◌also◌
returns-then-base-r c = let some : c.args.a ≡ suc c.in-Some.base = omega arith in
    rw (some, lt-ltb _ _ c.if-base-r.true, ← c.row_at.ensures)

pub returns-else-base-r : goal.returns-else-base-r
unfolding base_kept ◌also◌
returns-else-base-r c = let some : c.args.a ≡ suc c.in-Some.base = omega arith in
    rw (some, le-ltb _ _ c.if-base-r.false)
