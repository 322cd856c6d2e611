use mathlib.Core.Path.{◌≡◌}
use Prim.Native.Nat.{◌≤◌, ◌<◌}
use Rattle.objects.specs.Begins.{parts_of, among, begins_at}
use Rattle.objects.specs.Looking.{held, Edges}
use Rattle.objects.proofs.reached.Given as goal

abbrev pub invariant-loop-u : goal.invariant-loop-u
invariant-loop-u l = (l.at ≤ l.r) × (0 < l.into) × (l.into < held l.plan l.at)
    × (Edges (begins_at l.t l.f l.w) (held l.plan) l.w l.r l.tables.starts.now l.tables.ends.now
    → among (begins_at l.t l.f l.w) (held l.plan) (parts_of l.t l.f l.r) l.o ≡ among (begins_at l.t l.f l.w) (held l.plan) (parts_of l.t l.f l.at) l.into)

abbrev pub decreases-loop-u : goal.decreases-loop-u
decreases-loop-u l = l.at
