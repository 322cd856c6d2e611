use mathlib.Core.Path.{◌∙◌}
use borrow.Author.Tests.{ne_eqb}
use Rattle.prelude.specs.Choice.{choose}
use Rattle.cases_values.specs.Cases.{answer_of}
use Rattle.cases_values.proofs.answer.Goals as goal

pub returns-in-0 : goal.returns-in-0
unfolding answer_of choose
returns-in-0 c = c.dyadic_case.ensures ∙ rw c.in-0.is

pub returns-in-1 : goal.returns-in-1
unfolding answer_of choose
returns-in-1 c = c.monadic_case.ensures ∙ rw c.in-1.is

pub returns-in-2 : goal.returns-in-2
unfolding answer_of choose
returns-in-2 c = c.cell_case.ensures ∙ rw c.in-2.is

pub returns-in-3 : goal.returns-in-3
unfolding answer_of choose
returns-in-3 c = c.operand_at.ensures ∙ rw c.in-3.is

pub returns-in_default : goal.returns-in_default
unfolding answer_of choose
returns-in_default c =
    let m = c.in_default.in_default-own.rest in
    c.number_case.ensures
    ∙ rw (ne_eqb _ 0 m.0.0.0.1, ne_eqb _ 1 m.0.0.1, ne_eqb _ 2 m.0.1, ne_eqb _ 3 m.1)
