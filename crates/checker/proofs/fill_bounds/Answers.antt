use native.Mathlib.Omega.{arith}
use mathlib.Core.Path.{◌≡◌}
use Prim.Native.Nat.{◌*◌}
use Rattle.prelude.proofs.Cells.{filled_none}
use Rattle.checker.proofs.Bounds.{start_fits, end_fits, bounds_next}
use Rattle.checker.proofs.fill_bounds.Goals as goal

pub loop-k-init : goal.loop-k-init
loop-k-init c = filled_none _ _ _

pub overflow_cast-plan : goal.overflow_cast-plan
overflow_cast-plan c = omega (arith, start_fits c.args.tables c.requires.0 c.loop-k.k c.loop-k-test.true)

pub overflow_cast-plan-in-loop-k : goal.overflow_cast-plan-in-loop-k
overflow_cast-plan-in-loop-k c = omega (arith, end_fits c.args.tables c.requires.0 c.loop-k.k c.loop-k-test.true)

pub loop-k-preserved : goal.loop-k-preserved
loop-k-preserved c =
    bounds_next c.args.tables c.requires.0 c.loop-k.k c.loop-k-test.true _ _ (omega arith) c.loop-k.invariant

pub returns : goal.returns
returns c = let all : 2 * c.loop-k.k ≡ 12 = omega arith in rw all at c.loop-k.invariant
