use mathlib.Core.Path.{sym, ◌∙◌, ap}
use Rattle.semantics.specs.Memory.{LINK}
use Rattle.unwinding.specs.Links.{mark_number, link_at}
use Rattle.unwinding.proofs.link.Goals as goal

pub returns-in_default : goal.returns-in_default
unfolding mark_number link_at
returns-in_default c = sym (ap mark_number (sym (c.mark_at.ensures LINK) ∙ c.in_default.is))

pub returns : goal.returns
unfolding mark_number link_at
returns c = sym (ap mark_number (sym (c.mark_at.ensures LINK) ∙ c.in-Some.is))
