use mathlib.Core.Path.{◌≡◌}
use Prim.Native.Nat.{◌+◌, ◌-◌}
use lib.ListN.{length}
use Rattle.semantics.specs.Memory.{part_at, overwrite}
use Rattle.cells.proofs.copy_up.Given as goal

-- `cells::copy_up` meets its contract: when left cells are left, those behind them are copied.
abbrev pub invariant-loop-left : goal.invariant-loop-left
invariant-loop-left l =
    (length l.store ≡ length l.initial.store)
    × (l.store ≡ overwrite l.initial.store (l.to + l.left) (part_at l.initial.store (l.from + l.left) (l.n - l.left)))
