use mathlib.Core.Path.{sym, ◌∙◌}
use borrow.Author.Tests.{le-leb, lt-leb}
use Rattle.prelude.proofs.Choice.{choose_yes, choose_no}
use Rattle.machine.specs.Stopping.{store_question}
use Rattle.machine.proofs.store_question.Goals as goal

pub returns-then-cells-gt65536 : goal.returns-then-cells-gt65536
unfolding store_question
returns-then-cells-gt65536 c = sym (choose_no _ _ _ (lt-leb _ _ c.if-cells-gt65536.true))

pub returns-then-cells-first_top : goal.returns-then-cells-first_top
unfolding store_question
returns-then-cells-first_top c =
    let short = rw c.first_top.ensures at c.if-cells-first_top.true in
    sym (choose_yes _ _ _ (le-leb _ _ c.if-cells-gt65536.false) ∙ choose_no _ _ _ (lt-leb _ _ short))

pub returns : goal.returns
unfolding store_question
returns c =
    let room = rw c.first_top.ensures at c.if-cells-first_top.false in
    sym (choose_yes _ _ _ (le-leb _ _ c.if-cells-gt65536.false) ∙ choose_yes _ _ _ (le-leb _ _ room))
