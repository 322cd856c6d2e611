use Prim.Native.Nat.{◌<◌}
use native.Mathlib.Omega.{arith}
use lib.ListN.{length}
use Rattle.frames.proofs.Claiming.{globals_within}
use Rattle.places.proofs.Counting.{counted_none, counted_next}
use Rattle.places.proofs.first_variables.Goals as goal

pub overflow_cast-first : goal.overflow_cast-first
overflow_cast-first c =
    omega (arith, c.globals-first.ensures, globals_within c.args.v.now, c.requires.0)

pub loop-q-init : goal.loop-q-init
loop-q-init c =
    counted_none _ _ _ _ c.globals-first.ensures c.requires.0

pub loop-q-preserved : goal.loop-q-preserved
loop-q-preserved c =
    let s = c.requires in
    let so_far = c.loop-q.invariant in
    let more = rw c.rows_of-n.ensures at c.loop-q-test.true in
    let room : c.loop-q.q < length c.loop-q.firsts = omega (arith, s.2, so_far.filled.cells) in
    counted_next _ _ _ _ _ _ so_far room more _ c.row_at-row.ensures (omega arith)
