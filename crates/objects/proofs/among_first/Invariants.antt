use mathlib.Core.Path.{◌≡◌}
use mathlib.Core.Bool.{Bool}
use mathlib.Core.List.{List}
use Prim.Native.Nat.{ℕ, ◌-◌}
use Rattle.image.specs.Rows.{rows_of}
use Rattle.shapes.specs.Forms.{own_types}
use Rattle.objects.specs.Begins.{among}
use Rattle.objects.specs.Looking.{held, Edges, Fields, Ahead}
use Rattle.objects.proofs.among_first.Given as goal

abbrev pub invariant-loop-w : goal.invariant-loop-w
invariant-loop-w l = Ahead l.f l.plan l.j 0
    × ((deeper : ℕ → ℕ → Bool) (e m : ℕ) (ends : List ℕ) → Edges deeper (held l.plan) l.w m l.starts ends
    → Fields l.f l.plan l.k e m 0 → Fields l.f l.plan l.j e m 0
    × (among deeper (held l.plan) (own_types l.f l.k (e - l.k)) 0 ≡ among deeper (held l.plan) (own_types l.f l.j (e - l.j)) 0))

abbrev pub decreases-loop-w : goal.decreases-loop-w
decreases-loop-w l = rows_of l.f - l.j
