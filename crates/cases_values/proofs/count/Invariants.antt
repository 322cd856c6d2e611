use mathlib.Core.Path.{◌≡◌}
use Prim.Native.Nat.{◌≤◌}
use Rattle.cases_values.specs.Cases.{counted}
use Rattle.cases_values.proofs.count.Given as goal

-- `cases_values::count` meets its contract: the loop has counted the cases below k.
abbrev pub invariant-loop-k : goal.invariant-loop-k
invariant-loop-k l = (l.n ≤ l.k) × (l.n ≡ counted l.cases l.what l.good l.k)
