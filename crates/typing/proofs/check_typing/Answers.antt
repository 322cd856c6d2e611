use Rattle.typing.specs.Typing.{passed}
use Rattle.typing.proofs.Passing.{filled_none, untyped_bad, filled_next, all_typed}
use native.Mathlib.Omega.{arith}
use mathlib.Core.Path.{◌≡◌}
use Rattle.image.specs.Rows.{rows_of}
use Rattle.typing.proofs.check_typing.Goals as goal

pub loop-r-init : goal.loop-r-init
loop-r-init c = filled_none _ _ _ _ _

pub returns-in_default : goal.returns-in_default
unfolding passed
returns-in_default c = let l = c.loop-r in
    let more = rw c.rows_of-r-end.ensures at c.loop-r-test.true in
    record {
      value = untyped_bad _ _ _ _ _ _ _ l.invariant more (omega arith) _ c.row_at-row.ensures _ c.node_type.ensures
          c.in_default.is;
      types = l.invariant.table;
    }

pub loop-r-preserved : goal.loop-r-preserved
loop-r-preserved c = let l = c.loop-r in
    let more = rw c.rows_of-r-end.ensures at c.loop-r-test.true in
    filled_next _ _ _ _ _ _ _ l.invariant more (omega arith) _ c.row_at-row.ensures _ c.node_type.ensures _ c.in-Some.is

pub returns : goal.returns
unfolding passed
returns c = let l = c.loop-r in
    let all : l.r ≡ rows_of c.args.n.now = omega (arith, c.rows_of-r-end.ensures) in
    record { value = all_typed _ _ _ _ _ _ _ l.invariant (omega arith); types = rw all at l.invariant.table }
