use mathlib.Core.Path.{sym, ◌∙◌}
use Rattle.unwinding.proofs.Next.{or_behind, or_here}
use Rattle.unwinding.proofs.first_or.Goals as goal

pub returns-then-width_of-eq0 : goal.returns-then-width_of-eq0
returns-then-width_of-eq0 c = sym (or_behind _ _ _ (sym c.width_of.ensures ∙ c.if-width_of-eq0.true))

pub returns-else-width_of-eq0 : goal.returns-else-width_of-eq0
returns-else-width_of-eq0 c = sym (or_here _ _ _ (λ none. c.if-width_of-eq0.false (c.width_of.ensures ∙ none)))
