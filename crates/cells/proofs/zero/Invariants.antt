use mathlib.Core.Path.{◌≡◌}
use mathlib.Core.List.{◌++◌}
use lib.IntN.{pos}
use lib.ListN.{drop, replicate}
use Rattle.cells.proofs.zero.Given as goal

-- `cells::zero` meets its contract: the cells behind are zero, and those ahead as they were.
abbrev pub invariant-loop-cell : goal.invariant-loop-cell
invariant-loop-cell l =
    l.cell-items ≡ replicate l.cell-index (pos 0) ++ drop l.cell-index l.initial.cell-items
