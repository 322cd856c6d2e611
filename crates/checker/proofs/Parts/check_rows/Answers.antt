use mathlib.Core.Path.{sym, ◌∙◌}
use Rattle.std.proofs.lemmas.Result.{err_from_is_err_and}
use Rattle.prelude.specs.Choice.{choose}
use Rattle.checker.specs.Check.{table_question}
use Rattle.checker.proofs.Asking.{zeros, runs_room}
use Rattle.checker.proofs.Chain.{yes_alone, chain_yes, chain_no}
use Rattle.checker.proofs.Parts.check_rows.Goals as goal

pub returns-in_err-answer_of : goal.returns-in_err-answer_of
unfolding table_question choose
returns-in_err-answer_of c =
    let p = err_from_is_err_and c.from_residual.result c.from_residual.ensures.1 in
    rw (p.1, p.2) (sym (chain_no _ 5 6 c.check_variables.ensures c.in_err-answer_of.ensures))

pub returns-in_err-answer_of-2 : goal.returns-in_err-answer_of-2
unfolding table_question choose
returns-in_err-answer_of-2 c =
    let p = err_from_is_err_and c.from_residual-in_err-answer_of-2.result c.from_residual-in_err-answer_of-2.ensures.1 in
    rw (p.1, p.2)
    (sym (chain_yes _ 5 6 c.check_variables.ensures c.in_ok-answer_of.ensures
    ∙ chain_no _ 6 5 c.check_procedures.ensures c.in_err-answer_of-2.ensures))

pub returns-in_err-answer_of-3 : goal.returns-in_err-answer_of-3
unfolding table_question choose
returns-in_err-answer_of-3 c =
    let p = err_from_is_err_and c.from_residual-in_err-answer_of-3.result c.from_residual-in_err-answer_of-3.ensures.1 in
    rw (p.1, p.2)
    (sym (chain_yes _ 5 6 c.check_variables.ensures c.in_ok-answer_of.ensures
    ∙ chain_yes _ 6 5 c.check_procedures.ensures c.in_ok-answer_of-2.ensures
    ∙ chain_no _ 7 4 c.check_nodes.ensures c.in_err-answer_of-3.ensures))

pub check_statements-statements-requires : goal.check_statements-statements-requires
check_statements-statements-requires c = let fit = c.requires.0 in
    (fit.nodes, fit.statements, rw (zeros 2048) fit.nodes)

pub returns-in_err-answer_of-4 : goal.returns-in_err-answer_of-4
unfolding table_question choose
returns-in_err-answer_of-4 c =
    let p = err_from_is_err_and c.from_residual-in_err-answer_of-4.result c.from_residual-in_err-answer_of-4.ensures.1 in
    rw (p.1, p.2)
    (sym (chain_yes _ 5 6 c.check_variables.ensures c.in_ok-answer_of.ensures
    ∙ chain_yes _ 6 5 c.check_procedures.ensures c.in_ok-answer_of-2.ensures
    ∙ chain_yes _ 7 4 c.check_nodes.ensures c.in_ok-answer_of-3.ensures
    ∙ chain_no _ 8 3 c.check_statements-statements.ensures.value c.in_err-answer_of-4.ensures))

pub returns-in_err-answer_of-5 : goal.returns-in_err-answer_of-5
unfolding table_question choose
returns-in_err-answer_of-5 c =
    let p = err_from_is_err_and c.from_residual-in_err-answer_of-5.result c.from_residual-in_err-answer_of-5.ensures.1 in
    rw (p.1, p.2)
    (sym (chain_yes _ 5 6 c.check_variables.ensures c.in_ok-answer_of.ensures
    ∙ chain_yes _ 6 5 c.check_procedures.ensures c.in_ok-answer_of-2.ensures
    ∙ chain_yes _ 7 4 c.check_nodes.ensures c.in_ok-answer_of-3.ensures
    ∙ chain_yes _ 8 3 c.check_statements-statements.ensures.value c.in_ok-answer_of-4.ensures
    ∙ chain_no _ 9 2 c.check_names.ensures c.in_err-answer_of-5.ensures))

pub check_meaning-requires : goal.check_meaning-requires
check_meaning-requires c = let (fit, four, plan) = c.requires in (
  fit,
  four,
  sym c.check_procedures.ensures ∙ yes_alone 6 _ (sym c.in_ok-answer_of-2.ensures),
  plan,
  runs_room _ _ 2048 c.check_statements-statements.ensures.runs fit.nodes,
)

pub returns : goal.returns
unfolding table_question choose
returns c =
    c.check_meaning.ensures.by_index _
    ∙ sym (chain_yes _ 5 6 c.check_variables.ensures c.in_ok-answer_of.ensures
    ∙ chain_yes _ 6 5 c.check_procedures.ensures c.in_ok-answer_of-2.ensures
    ∙ chain_yes _ 7 4 c.check_nodes.ensures c.in_ok-answer_of-3.ensures
    ∙ chain_yes _ 8 3 c.check_statements-statements.ensures.value c.in_ok-answer_of-4.ensures
    ∙ chain_yes _ 9 2 c.check_names.ensures c.in_ok-answer_of-5.ensures)
