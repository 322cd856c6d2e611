use mathlib.Core.Path.{◌≡◌}
use mathlib.Core.List.{List, [], ◌∷◌}
use Prim.Native.Nat.{ℕ, ◌≤◌, ◌<◌}
use Rattle.image.specs.Rows.{rows_of}
use Rattle.semantics.specs.Layout.{Program}
use Rattle.asking.specs.Asking.{room_of}
use Rattle.asking.specs.Passes.{Walked}
use Rattle.unwinding.specs.Going.{Oldest}
use Rattle.unwinding.proofs.Seeking.{Seeking}
use Rattle.unwinding.proofs.caller_below.Given as goal

-- `unwinding::caller_below` meets its contract: the frame sought is older than the one that the loop stands at.
abbrev pub invariant-loop-b : goal.invariant-loop-b
invariant-loop-b l = (l.b ≤ 65536)
    × ((g : Program) (qs older : List ℕ) (p start e : ℕ) → Walked g qs l.store start e → e ≤ l.top
    → rows_of g.procedures ≤ 64 → room_of g [] < l.at → Oldest (p ∷ older) qs → l.base ≡ room_of g older → l.at ≤ l.base
    → Seeking g qs l.store l.top l.at l.b)

abbrev pub decreases-loop-b : goal.decreases-loop-b
decreases-loop-b l = l.b
