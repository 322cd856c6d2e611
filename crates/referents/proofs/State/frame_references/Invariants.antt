use Prim.Native.Nat.{◌-◌}
use Rattle.referents.proofs.Parameters.{Passed}
use Rattle.referents.proofs.State.frame_references.Given as goal

abbrev pub invariant-loop-k : goal.invariant-loop-k
invariant-loop-k l =
    Passed l.self.loaded.image.now l.q l.base l.self.store.now l.self.top l.self.blocks.now l.k

abbrev pub decreases-loop-k : goal.decreases-loop-k
decreases-loop-k l = l.end - l.k
