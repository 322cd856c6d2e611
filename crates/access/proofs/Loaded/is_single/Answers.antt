use mathlib.Core.Path.{sym}
use Rattle.access.proofs.Bounds.{single_first}
use Rattle.access.proofs.Loaded.is_single.Goals as goal

pub returns : goal.returns
returns c = rw c.scalar_rows.ensures (sym (single_first c.args.self.now.planned _ c.requires 1))
