use mathlib.Core.List.{map}
use lib.ListN.{get_or}
use Rattle.prelude.specs.Parts.{sum}
use Rattle.shapes.specs.Forms.{own_types}
use Rattle.types.specs.Filling.{Offsets}
use mathlib.Core.Path.{◌≡◌}
use Prim.Native.Nat.{◌+◌, ◌-◌}
use Rattle.types.proofs.plan_offsets.Given as goal

abbrev pub invariant-loop-i : goal.invariant-loop-i
invariant-loop-i l = (l.place ≡ l.at + sum (map (λ r. get_or l.initial.plan r 0) (own_types l.f l.k (l.i - l.k))))
    × Offsets l.f l.k (l.i - l.k) l.at l.initial.plan l.plan
