use Rattle.frames.specs.Procedures.{claimed_by}
use mathlib.Core.Path.{refl}
use Rattle.access.proofs.Loaded.claimed_by.Goals as goal

pub returns : goal.returns
unfolding claimed_by
returns c = rw c.procedure_at-row.ensures refl
