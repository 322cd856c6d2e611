use mathlib.Core.Path.{sym}
use Rattle.semantics.proofs.Kinship.{guard_passes, guard_traps}
use Rattle.finding.proofs.guard_place.Goals as goal

pub returns-then-extends : goal.returns-then-extends
returns-then-extends c = sym (guard_passes _ _ _ (rw (← c.extends.ensures) c.if-extends.true))

pub returns : goal.returns
returns c = sym (guard_traps _ _ _ (rw (← c.extends.ensures) c.if-extends.false))
