use mathlib.Core.Path.{◌≡◌}
use mathlib.Core.Bool.{Bool}
use Prim.Native.Nat.{ℕ, ◌-◌, ◌<◌}
use Rattle.image.specs.Rows.{rows_of}
use Rattle.shapes.specs.Forms.{own_types}
use Rattle.objects.specs.Begins.{among}
use Rattle.objects.specs.Looking.{held, Edges, Fields, Ahead}
use Rattle.objects.proofs.among.Given as goal

abbrev pub invariant-loop-rest : goal.invariant-loop-rest
invariant-loop-rest l = (0 < l.rest) × Ahead l.f l.plan l.j l.rest
    × ((e m : ℕ) → Fields l.f l.plan l.k e m l.o → Fields l.f l.plan l.j e m l.rest)
    × ((deeper : ℕ → ℕ → Bool) (e m : ℕ) → Edges deeper (held l.plan) l.w m l.tables.starts.now l.tables.ends.now → Fields l.f l.plan l.k e m l.o
    → among deeper (held l.plan) (own_types l.f l.k (e - l.k)) l.o ≡ among deeper (held l.plan) (own_types l.f l.j (e - l.j)) l.rest)

abbrev pub decreases-loop-rest : goal.decreases-loop-rest
decreases-loop-rest l = rows_of l.f - l.j
