use mathlib.Core.Path.{sym, ◌∙◌}
use native.Mathlib.Omega.{arith}
use Rattle.std.proofs.lemmas.Result.{err_from_is_err_and}
use Rattle.prelude.specs.Choice.{choose}
use Rattle.checker.specs.Check.{table_question}
use Rattle.checker.proofs.Asking.{places_fit, leaves_some, plan_all, leaves_whole}
use Rattle.checker.proofs.Chain.{yes_alone, chain_yes, chain_no}
use Rattle.checker.proofs.Parts.check_tables.Goals as goal

pub returns-in_err-answer_of-clause-value : goal.returns-in_err-answer_of-clause-value
unfolding table_question choose
returns-in_err-answer_of-clause-value c =
    let p = err_from_is_err_and c.from_residual.result c.from_residual.ensures.1 in
    rw (p.1, p.2) (sym (chain_no _ 4 7 c.check_types.ensures.value c.in_err-answer_of.ensures))

pub returns-in_err-answer_of-clause-plan : goal.returns-in_err-answer_of-clause-plan
returns-in_err-answer_of-clause-plan c = let k = c.check_types.ensures in
    let p = err_from_is_err_and c.from_residual.result c.from_residual.ensures.1 in
    leaves_some _ _ _ _ _ _ k.value k.plan k.rest _ _ _ p.1

pub check_rows-requires : goal.check_rows-requires
check_rows-requires c = let k = c.check_types.ensures in
    let kept = yes_alone 4 _ (sym c.in_ok-answer_of.ensures) in (
      c.requires.0,
      record { version = _; passes = sym k.value ∙ kept },
      plan_all _ _ _ _ _ _ k.value k.plan k.rest kept,
    )

pub returns-in_err-check_rows-clause-value : goal.returns-in_err-check_rows-clause-value
unfolding table_question choose
returns-in_err-check_rows-clause-value c =
    let p = err_from_is_err_and c.from_residual-in_err-check_rows.result c.from_residual-in_err-check_rows.ensures.1 in
    rw (p.1, p.2)
    (sym (chain_yes _ 4 7 c.check_types.ensures.value c.in_ok-answer_of.ensures ∙ sym c.in_err-check_rows.ensures))

pub returns-in_err-check_rows-clause-plan : goal.returns-in_err-check_rows-clause-plan
returns-in_err-check_rows-clause-plan c = let k = c.check_types.ensures in
    let p = err_from_is_err_and c.from_residual-in_err-check_rows.result c.from_residual-in_err-check_rows.ensures.1 in
    leaves_some _ _ _ _ _ _ k.value k.plan k.rest _ _ _ p.1

pub fill_places-requires : goal.fill_places-requires
fill_places-requires c = let k = c.check_types.ensures in
    let kept = yes_alone 4 _ (sym c.in_ok-answer_of.ensures) in
    let pre = c.requires in
    let cells = k.rest.cells in
    places_fit _ _ _ _ _ _ _ _ pre.0 (omega arith) (record { version = _; passes = sym k.value ∙ kept })
    (sym c.in_ok-check_rows.ensures) (plan_all _ _ _ _ _ _ k.value k.plan k.rest kept)

pub returns-clause-value : goal.returns-clause-value
unfolding table_question choose
returns-clause-value c =
    sym (chain_yes _ 4 7 c.check_types.ensures.value c.in_ok-answer_of.ensures ∙ sym c.in_ok-check_rows.ensures)

pub returns-clause-plan : goal.returns-clause-plan
returns-clause-plan c = let k = c.check_types.ensures in
    let kept = yes_alone 4 _ (sym c.in_ok-answer_of.ensures) in
    leaves_whole _ _ _ _ _ _ k.value k.plan k.rest _ _ _ kept c.fill_places.ensures
