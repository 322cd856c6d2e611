use mathlib.Core.Path.{sym, ◌∙◌}
use borrow.Author.Tests.{lt-leb, le-leb}
use Rattle.prelude.proofs.Choice.{also_left, also_pass}
use Rattle.asking.specs.Continuing.{mark_within}
use Rattle.resuming.proofs.is_marked.Goals as goal

pub returns-then-r : goal.returns-then-r
unfolding mark_within
returns-then-r c = sym (also_pass _ (le-leb _ _ c.if-r.true))

pub returns-else-r : goal.returns-else-r
unfolding mark_within
returns-else-r c = let low = lt-leb _ _ c.if-r.false in low ∙ sym (also_left _ low)
