use Rattle.typing.specs.Typing.{narrows}
use Rattle.prelude.proofs.Choice.{also_left, also_right, also_pass}
use borrow.Author.Tests.{eq-eqb, ne_eqb}
use mathlib.Core.Path.{sym, ◌∙◌}
use Rattle.typing.proofs.narrows.Goals.{then-variable-eq3, else-variable-eq3}
use Rattle.typing.proofs.narrows.Goals as goal

pub returns-then-row_at-eq4 : goal.returns-then-row_at-eq4
unfolding narrows
returns-then-row_at-eq4 c =
    let both = c.if-row_at-eq4.true in
    elim c.if-variable-eq3.branch [
      | then-variable-eq3 w ↦
          rw (← c.row_at-variable.ensures, ← w.row_at.ensures)
          (c.extends.ensures ∙ sym (also_pass _ (eq-eqb _ _ w.if-variable-eq3.true) ∙ also_pass _ (sym w.value-is ∙ both)))
      | else-variable-eq3 w ↦ let no = ne_eqb _ _ w.if-variable-eq3.false in let value = w.value-is in cc
    ]

pub returns-else-row_at-eq4 : goal.returns-else-row_at-eq4
unfolding narrows
returns-else-row_at-eq4 c =
    let no = c.if-row_at-eq4.false in
    elim c.if-variable-eq3.branch [
      | then-variable-eq3 w ↦
          rw (← c.row_at-variable.ensures, ← w.row_at.ensures) (no ∙ sym (also_right _ (also_left _ (sym w.value-is ∙ no))))
      | else-variable-eq3 w ↦
          rw (← c.row_at-variable.ensures) (no ∙ sym (also_left _ (ne_eqb _ _ w.if-variable-eq3.false)))
    ]
