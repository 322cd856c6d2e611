use Rattle.prelude.specs.Cells.{Filled}
use Prim.Native.Nat.{◌*◌}
use Rattle.sizes.specs.Cells.{BOUNDS}
use Rattle.checker.specs.Prepared.{bound_of}
use Rattle.checker.proofs.fill_bounds.Given as goal

abbrev pub invariant-loop-k : goal.invariant-loop-k
invariant-loop-k l = Filled BOUNDS (2 * l.k) (bound_of l.fn.tables) l.initial.plan l.plan
