use Rattle.rules.specs.Rules.{argument_rule}
use Rattle.prelude.proofs.Choice.{also_left, also_right, also_pass}
use mathlib.Core.Path.{sym, ◌∙◌}
use Rattle.rules.proofs.Body.argument_rule.Goals.{then-assignable, else-assignable}
use Rattle.rules.proofs.Body.argument_rule.Goals as goal

pub returns-then-form_rule : goal.returns-then-form_rule
unfolding argument_rule
returns-then-form_rule c =
    let both = c.if-form_rule.true in
    rw (← c.type_at-source.ensures, ← c.row_at-parameter.ensures, ← c.assignable.ensures)
    (elim c.if-assignable.branch [
      | then-assignable w ↦
          c.is_owned.ensures
          ∙ sym (also_pass _ w.if-assignable.true ∙ also_pass _ (sym w.form_rule.ensures ∙ sym w.value-is ∙ both))
      | else-assignable w ↦ let no = w.if-assignable.false in let value = w.value-is in cc
    ])

pub returns-else-form_rule : goal.returns-else-form_rule
unfolding argument_rule
returns-else-form_rule c =
    let no = c.if-form_rule.false in
    rw (← c.type_at-source.ensures, ← c.row_at-parameter.ensures, ← c.assignable.ensures)
    (no ∙ elim c.if-assignable.branch [
      | then-assignable w ↦ sym (also_right _ (also_left _ (sym w.form_rule.ensures ∙ sym w.value-is ∙ no)))
      | else-assignable w ↦ sym (also_left _ w.if-assignable.false)
    ])
