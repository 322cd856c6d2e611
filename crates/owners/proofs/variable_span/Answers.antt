use Rattle.frames.specs.Variables.{is_global}
use Rattle.owners.specs.Owners.{variable_span}
use borrow.Author.Tests.{lt-ltb, le-ltb, eq-eqb, ne_eqb}
use Rattle.prelude.proofs.Choice.{choose_yes, choose_no}
use mathlib.Core.Path.{sym, ◌∙◌}
use Rattle.owners.proofs.variable_span.Goals as goal

pub returns-then-row-eq0 : goal.returns-then-row-eq0
unfolding variable_span is_global
returns-then-row-eq0 c = rw (← c.row_at-row.ensures) (sym (choose_yes _ _ _ (eq-eqb _ _ c.if-row-eq0.true)))

pub returns-then-a-rows_of : goal.returns-then-a-rows_of
unfolding variable_span is_global
returns-then-a-rows_of c =
    rw (← c.row_at-row.ensures, ← c.rows_of.ensures)
    (sym (choose_no _ _ _ (ne_eqb _ _ c.if-row-eq0.false) ∙ choose_no _ _ _ (le-ltb _ _ c.if-a-rows_of.true)))

pub returns : goal.returns
unfolding variable_span is_global
returns c =
    rw (← c.row_at-row.ensures, ← c.rows_of.ensures)
    (sym (choose_no _ _ _ (ne_eqb _ _ c.if-row-eq0.false) ∙ choose_yes _ _ _ (lt-ltb _ _ c.if-a-rows_of.false)))
