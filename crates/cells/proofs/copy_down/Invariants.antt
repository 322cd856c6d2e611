use mathlib.Core.Path.{◌≡◌}
use lib.ListN.{length}
use Rattle.semantics.specs.Memory.{part_at, overwrite}
use Rattle.cells.proofs.copy_down.Given as goal

-- `cells::copy_down` meets its contract: after i turns the first i cells are copied.
abbrev pub invariant-loop-i : goal.invariant-loop-i
invariant-loop-i l =
    (length l.store ≡ length l.initial.store) × (l.store ≡ overwrite l.initial.store l.to (part_at l.initial.store l.from l.i))
