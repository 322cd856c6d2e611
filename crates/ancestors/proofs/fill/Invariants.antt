use Rattle.prelude.specs.Cells.{Filled}
use Rattle.ancestors.specs.Ancestors.{word_of}
use Rattle.ancestors.proofs.fill.Given as goal

abbrev pub invariant-loop-r : goal.invariant-loop-r
invariant-loop-r l = Filled l.from l.r (word_of l.t l.low) l.initial.plan l.plan
