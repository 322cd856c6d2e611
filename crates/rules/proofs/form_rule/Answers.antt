use Rattle.rules.specs.Rules.{form_rule}
use borrow.Author.Tests.{eq-eqb, ne_eqb}
use Rattle.prelude.proofs.Choice.{choose_yes, choose_no}
use mathlib.Core.Path.{sym, ◌∙◌, ap}
use mathlib.Core.Bool.{not}
use Rattle.rules.proofs.form_rule.Goals as goal

pub returns-then-kind-ne3 : goal.returns-then-kind-ne3
unfolding form_rule
returns-then-kind-ne3 c =
    let no = ne_eqb _ 3 c.if-kind-ne3.true in
    ap not no ∙ sym (choose_no _ _ _ no)

pub returns-else-kind-ne3 : goal.returns-else-kind-ne3
unfolding form_rule
returns-else-kind-ne3 c =
    rw (← c.row_at.ensures) (c.is_designator.ensures ∙ sym (choose_yes _ _ _ (eq-eqb _ _ c.if-kind-ne3.false)))
