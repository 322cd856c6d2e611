use mathlib.Core.Path.{◌≡◌}
use mathlib.Core.Bool.{Bool}
use mathlib.Core.List.{List, ◌++◌, map}
use Prim.Native.Nat.{ℕ, ◌+◌, ◌-◌, ◌*◌, ◌≤◌}
use Rattle.prelude.specs.Parts.{sum}
use Rattle.shapes.specs.Forms.{own_types}
use Rattle.objects.specs.Begins.{among}
use Rattle.objects.specs.Looking.{held, Edges, AtEdges, LowTypes}
use Rattle.objects.proofs.Joining.{Joined}
use Rattle.objects.proofs.field_edges.Given as goal

abbrev pub invariant-loop-j : goal.invariant-loop-j
invariant-loop-j l = (l.size ≤ (l.j - l.k + 1) * 4294967295)
    × ((deeper : ℕ → ℕ → Bool) (w m : ℕ) (parts : List ℕ) → Edges deeper (held l.plan) w m l.tables.starts.now l.tables.ends.now
    → LowTypes l.f l.k (l.k + l.n) m → sum (map (held l.plan) parts) ≡ l.before
    → AtEdges (among deeper (held l.plan) parts) l.before w l.initial.first l.initial.last
    → Joined deeper (held l.plan) w (parts ++ own_types l.f l.k l.n) (own_types l.f l.j (l.k + l.n - l.j)) l.size l.first l.last)
