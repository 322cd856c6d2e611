use Prim.Native.Nat.{◌-◌}
use Rattle.places.proofs.Running.{Run}
use Rattle.places.proofs.place_run.Given as goal

abbrev pub invariant-loop-i : goal.invariant-loop-i
invariant-loop-i l = Run l.v l.initial.plan l.plan l.k l.n l.at l.place (l.i - l.k)
