use mathlib.Core.Path.{refl}
use native.Mathlib.Omega.{arith}
use Rattle.values.proofs.Numbers.{plain64}
use Rattle.calling.specs.Showing.{Shows.shows_stuck}
use Rattle.stepping.proofs.Showing.{shows_by, not_written, shows_written}
use Rattle.stepping.proofs.write_cell.Goals as goal

pub returns-then-s-address : goal.returns-then-s-address
returns-then-s-address c = λ output. shows_by (not_written _ _ _ (omega arith)) (shows_stuck refl refl)

pub returns : goal.returns
returns c = λ output.
    shows_written _ _ c.requires.0 c.requires.1 (omega arith)
    (rw (plain64 _ c.ranges.z) at c.put.ensures) c.at_row.ensures
