use Rattle.owners.specs.Owners.{within}
use borrow.Author.Tests.{lt-leb, le-leb}
use Rattle.prelude.proofs.Choice.{also_left, also_pass}
use mathlib.Core.Path.{sym, ◌∙◌}
use Rattle.owners.proofs.is_within.Goals as goal

pub returns-then-first-from : goal.returns-then-first-from
unfolding within
returns-then-first-from c =
    let low = rw c.from.ensures at c.if-first-from.true in
    rw (← c.span_at-span.ensures, c.from-then-first-from.ensures) (sym (also_pass _ (le-leb _ _ low)))

pub returns-else-first-from : goal.returns-else-first-from
unfolding within
returns-else-first-from c =
    let low = lt-leb _ _ (rw c.from.ensures at c.if-first-from.false) in
    rw (← c.span_at-span.ensures, c.from.ensures) (low ∙ sym (also_left _ low))
