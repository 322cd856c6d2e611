use mathlib.Core.Path.{◌∙◌}
use Rattle.prelude.specs.Choice.{choose}
use Rattle.access.specs.Ready.{table_of}
use Rattle.access.proofs.Loaded.type_at.Goals as goal

pub returns : goal.returns
unfolding table_of choose
returns c = c.row_at.ensures ∙ rw c.table.ensures
