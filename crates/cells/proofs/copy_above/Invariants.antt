use mathlib.Core.Path.{◌≡◌}
use Prim.Native.Nat.{◌+◌}
use lib.ListN.{length}
use Rattle.semantics.specs.Memory.{part_at, overwrite}
use Rattle.cells.proofs.copy_above.Given as goal

-- `cells::copy_above` meets its contract: what is read below top was not written.
abbrev pub invariant-loop-i : goal.invariant-loop-i
invariant-loop-i l =
    (length l.store ≡ length l.initial.store) × (l.store ≡ overwrite l.initial.store (l.top + l.place) (part_at l.initial.store l.from l.i))
