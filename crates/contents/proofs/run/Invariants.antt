use mathlib.Core.Path.{◌≡◌}
use Prim.Native.Nat.{◌+◌, ◌-◌}
use lib.ListN.{drop, replicate}
use Rattle.asking.specs.State.{values_kept}
use Rattle.contents.proofs.run.Given as goal

-- `contents::run` meets its contract: at each turn the cells from z-index on are left.
abbrev pub invariant-loop-z : goal.invariant-loop-z
invariant-loop-z l =
    values_kept (replicate l.n l.kind) (drop l.a l.store)
    ≡ values_kept (replicate (l.a + l.n - (l.a + l.z-index)) l.kind) (drop (l.a + l.z-index) l.store)
