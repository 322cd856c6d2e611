use Prim.Native.Nat.{ℕ}
use Rattle.objects.specs.Begins.{begins_at}
use Rattle.objects.specs.Looking.{held, Edges, Beyond}
use Rattle.objects.proofs.fill.Given as goal

abbrev pub invariant-loop-r : goal.invariant-loop-r
invariant-loop-r l = Beyond l.r l.initial.starts l.starts × Beyond l.r l.initial.ends l.ends
    × ((w : ℕ) → Edges (begins_at l.t l.f w) (held l.plan) w l.r l.starts l.ends)
