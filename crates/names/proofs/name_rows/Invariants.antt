use mathlib.Core.Path.{◌≡◌}
use Prim.Native.Nat.{ℕ, ◌≤◌, ◌<◌}
use lib.ListN.{get_or}
use Rattle.names.specs.declared.Often.TheVariants.{Never}
use Rattle.names.specs.Often.{more}
use Rattle.names.proofs.name_rows.Given as goal

abbrev pub invariant-loop-node : goal.invariant-loop-node
invariant-loop-node l =
    ((j : ℕ) → j < l.node-index → get_or l.node-items j Never ≡ more (get_or l.initial.node-items j Never))
    × ((j : ℕ) → l.node-index ≤ j → get_or l.node-items j Never ≡ get_or l.initial.node-items j Never)
