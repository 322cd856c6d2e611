use Rattle.image.specs.Faults.{KeptIn}
use Rattle.frames.specs.Variables.{kind_within}
use Rattle.frames.proofs.kinds_within.Given as goal

abbrev pub invariant-loop-i : goal.invariant-loop-i
invariant-loop-i l = KeptIn (kind_within l.v l.low l.high) l.k l.i
