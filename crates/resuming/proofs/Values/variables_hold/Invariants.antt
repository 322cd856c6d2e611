use Prim.Native.Nat.{◌-◌}
use Rattle.semantics.specs.Running.{program_of}
use Rattle.asking.specs.Passes.{value_test}
use Rattle.asking.proofs.Variables.{Ahead}
use Rattle.resuming.proofs.Values.variables_hold.Given as goal

abbrev pub invariant-loop-j : goal.invariant-loop-j
invariant-loop-j l =
    Ahead (program_of l.self.loaded.image.now) (value_test (program_of l.self.loaded.image.now)) l.self.store.now l.k l.n l.a l.j l.at

abbrev pub decreases-loop-j : goal.decreases-loop-j
decreases-loop-j l = l.end - l.j
