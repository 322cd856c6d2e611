use Rattle.rules.specs.Rules.{assign_rule}
use Rattle.prelude.proofs.Choice.{also_left, also_right, also_pass}
use mathlib.Core.Path.{sym, ◌∙◌}
use Rattle.rules.proofs.Body.assign_rule.Goals.{then-assignable, else-assignable}
use Rattle.rules.proofs.Body.assign_rule.Goals as goal

pub returns-then-is_owned : goal.returns-then-is_owned
unfolding assign_rule
returns-then-is_owned c =
    let both = c.if-is_owned.true in
    rw (← c.type_at-source.ensures, ← c.type_at-target.ensures, ← c.assignable.ensures)
    (elim c.if-assignable.branch [
      | then-assignable w ↦
          c.is_owned-then-is_owned.ensures
          ∙ sym (also_pass _ w.if-assignable.true ∙ also_pass _ (sym w.is_owned.ensures ∙ sym w.value-is ∙ both))
      | else-assignable w ↦ let no = w.if-assignable.false in let value = w.value-is in cc
    ])

pub returns-else-is_owned : goal.returns-else-is_owned
unfolding assign_rule
returns-else-is_owned c =
    let no = c.if-is_owned.false in
    rw (← c.type_at-source.ensures, ← c.type_at-target.ensures, ← c.assignable.ensures)
    (no ∙ elim c.if-assignable.branch [
      | then-assignable w ↦ sym (also_right _ (also_left _ (sym w.is_owned.ensures ∙ sym w.value-is ∙ no)))
      | else-assignable w ↦ sym (also_left _ w.if-assignable.false)
    ])
