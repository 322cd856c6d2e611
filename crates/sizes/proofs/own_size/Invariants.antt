use mathlib.Core.Path.{◌≡◌}
use Prim.Native.Nat.{◌+◌, ◌-◌, ◌*◌, ◌≤◌}
use mathlib.Core.List.{map}
use lib.ListN.{get_or}
use Rattle.prelude.specs.Parts.{sum}
use Rattle.shapes.specs.Forms.{own_types}
use Rattle.sizes.proofs.own_size.Given as goal

abbrev pub invariant-loop-i : goal.invariant-loop-i
invariant-loop-i l = (l.total ≤ (l.i - l.k) * 4294967295)
    × (sum (map (λ r. get_or l.plan r 0) (own_types l.f l.k l.n)) ≡ l.total + sum (map (λ r. get_or l.plan r 0) (own_types l.f l.i (l.k + l.n - l.i))))
