use mathlib.Core.Path.{◌≡◌}
use Prim.Native.Nat.{◌-◌}
use Rattle.frames.specs.Variables.{globals_from}
use Rattle.frames.proofs.globals.Given as goal

abbrev pub invariant-loop-k : goal.invariant-loop-k
invariant-loop-k l = globals_from l.v 0 l.n ≡ globals_from l.v l.k (l.n - l.k)
