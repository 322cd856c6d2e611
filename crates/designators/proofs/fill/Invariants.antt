use Rattle.prelude.specs.Cells.{Filled}
use Rattle.sizes.specs.Cells.{NODES}
use Rattle.designators.specs.Designators.{cell_of}
use Rattle.designators.proofs.fill.Given as goal

abbrev pub invariant-loop-r : goal.invariant-loop-r
invariant-loop-r l = Filled NODES l.r (cell_of l.t l.f l.v l.n) l.initial.plan l.plan
