-- The state that a run goes on from.
use Rattle.std.specs.Prelude.{List, ℤ}
use Rattle.semantics.specs.declared.Registers.{Registers}
use Rattle.semantics.specs.Memory.{Cell}
use Rattle.semantics.specs.Layout.{Program}
use Rattle.semantics.specs.Stepping.{State}
use Rattle.asking.specs.State.{dressed, kinds_below, frames_of}

-- what the numbers stand for, "each cell taken as the kind that its place in a frame gives"
unfoldable pub resumed : Program → Registers → List ℤ → List ℤ → State Cell
resumed g s store output = record { at = s; cells = dressed (kinds_below g (frames_of g s store)) store; output = output }
