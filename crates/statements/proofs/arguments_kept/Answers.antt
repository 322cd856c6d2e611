use mathlib.Core.Path.{sym, ◌∙◌, ap}
use lib.Dec.{leb}
use borrow.Author.Tests.{eq-eqb}
use Rattle.prelude.proofs.Choice.{choose_yes}
use Rattle.statements.specs.Statements.{arguments_kept}
use Rattle.statements.proofs.Running.{some_kept}
use Rattle.statements.proofs.arguments_kept.Goals as goal

pub returns-then-parameters-eq0 : goal.returns-then-parameters-eq0
unfolding arguments_kept
returns-then-parameters-eq0 c = λ n runs. sym (choose_yes _ _ _ (eq-eqb _ _ c.if-parameters-eq0.true))

pub returns-else-parameters-eq0 : goal.returns-else-parameters-eq0
returns-else-parameters-eq0 c = λ n runs.
    ap (leb c.args.parameters) c.run_at.ensures
    ∙ some_kept n _ runs _ _ c.if-parameters-eq0.false
