use Prim.Native.Nat.{◌-◌}
use Rattle.semantics.specs.Running.{program_of}
use Rattle.referents.proofs.Halving.{Halved}
use Rattle.referents.proofs.first_reaching.Given as goal

abbrev pub invariant-loop-high : goal.invariant-loop-high
invariant-loop-high l = Halved (program_of l.loaded.image.now) l.k l.n l.at l.low l.high

abbrev pub decreases-loop-high : goal.decreases-loop-high
decreases-loop-high l = l.high - l.low
