use mathlib.Core.Path.{ap}
use lib.Dec.{ltb}
use Rattle.prelude.specs.Choice.{choose}
use Rattle.access.specs.Ready.{table_of}
use Rattle.unwinding.proofs.is_procedure.Goals as goal

pub returns : goal.returns
unfolding table_of choose
returns c =
    let q = c.args.q in
    rw c.table.ensures at (ap (ltb q) c.rows_of.ensures)
