use mathlib.Core.Path.{sym, ◌∙◌}
use Rattle.prelude.proofs.Choice.{choose_yes, choose_no}
use Rattle.machine.proofs.kept.Goals as goal

pub returns-then-passes : goal.returns-then-passes
returns-then-passes c = sym (choose_yes _ _ _ c.if-passes.true)

pub returns : goal.returns
returns c = c.refused.ensures ∙ sym (choose_no _ _ _ c.if-passes.false)
