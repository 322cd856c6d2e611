use Rattle.semantics.specs.Memory.{ADDRESS, TYPE}
use Rattle.semantics.specs.Finding.{with_mark, parameter_place}
use Rattle.finding.proofs.View.parameter_place.Goals as goal

pub returns-in_default : goal.returns-in_default
unfolding parameter_place with_mark
returns-in_default c = rw (← c.mark_at.ensures ADDRESS, c.in_default.is)

pub returns-in_default-mark_at : goal.returns-in_default-mark_at
unfolding parameter_place with_mark
returns-in_default-mark_at c =
    rw (← c.mark_at.ensures ADDRESS, c.in-Some.is)
    (rw (← c.mark_at-2.ensures TYPE, c.in_default-mark_at.is))

pub returns : goal.returns
unfolding parameter_place with_mark
returns c =
    rw (← c.mark_at.ensures ADDRESS, c.in-Some.is)
    (rw (← c.mark_at-2.ensures TYPE, c.in-Some-mark_at.is))
