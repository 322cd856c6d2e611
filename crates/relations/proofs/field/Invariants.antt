use mathlib.Core.Path.{◌≡◌}
use Prim.Native.Nat.{◌≤◌}
use Rattle.relations.specs.Fields.{planned_field}
use Rattle.relations.proofs.field.Given as goal

abbrev pub invariant-loop-row : goal.invariant-loop-row
invariant-loop-row l = (l.at ≤ l.r) × (planned_field l.t l.f l.plan l.n l.r ≡ planned_field l.t l.f l.plan l.n l.at)

abbrev pub decreases-loop-row : goal.decreases-loop-row
decreases-loop-row l = l.at
