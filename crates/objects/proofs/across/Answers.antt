use mathlib.Core.Path.{sym}
use borrow.Author.Tests.{eq-eqb, ne_eqb}
use Rattle.prelude.proofs.Choice.{choose_yes, choose_no}
use Rattle.objects.proofs.across.Goals as goal

pub returns-then-n-eq0 : goal.returns-then-n-eq0
returns-then-n-eq0 c = sym (choose_yes _ _ _ (eq-eqb _ 0 c.if-n-eq0.true))

pub returns-else-n-eq0 : goal.returns-else-n-eq0
returns-else-n-eq0 c = sym (choose_no _ _ _ (ne_eqb _ 0 c.if-n-eq0.false))
