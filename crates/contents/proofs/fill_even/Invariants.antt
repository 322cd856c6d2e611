use Rattle.prelude.specs.Cells.{Filled}
use Rattle.contents.specs.Kinds.{even_of}
use Rattle.contents.proofs.fill_even.Given as goal

-- `contents::fill_even` meets its contract: at each turn the rows below r are filled.
abbrev pub invariant-loop-r : goal.invariant-loop-r
invariant-loop-r l = Filled 0 l.r (even_of l.t l.f) l.initial.even l.even
