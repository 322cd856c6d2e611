-- What was read so far is at the start of the image.
use Rattle.std.proofs.Common.{◌≤◌, ◌-◌, length, take}
use Rattle.std.specs.Io.KnownBytes.{Consumes}
use Rattle.doorrun.proofs.read_image.Given as goal

abbrev pub invariant-loop-done : goal.invariant-loop-done
invariant-loop-done g l =
    (l.done ≤ length l.image)
    × Consumes (g.R.Read.remaining l.initial.input) (g.R.Read.remaining l.input) (take l.done l.image)

abbrev pub decreases-loop-done : goal.decreases-loop-done
decreases-loop-done g l = length l.image - l.done
