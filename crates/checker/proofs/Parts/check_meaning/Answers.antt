use mathlib.Core.Path.{refl, sym, ◌∙◌}
use Rattle.std.proofs.lemmas.Result.{err_from_is_err_and}
use Rattle.prelude.specs.Choice.{choose}
use Rattle.checker.specs.Check.{table_question}
use Rattle.checker.proofs.Asking.{rules_all}
use Rattle.checker.proofs.Chain.{yes_alone, chain_yes, chain_no, chain_last}
use Rattle.checker.proofs.Parts.check_meaning.Goals as goal

pub returns-in_err-answer_of-clause-by_index : goal.returns-in_err-answer_of-clause-by_index
unfolding table_question choose
returns-in_err-answer_of-clause-by_index c = λ version.
    let p = err_from_is_err_and c.from_residual.result c.from_residual.ensures.1 in
    rw (p.1, p.2) (sym (chain_no _ 10 1 c.check_typing-typed.ensures.value c.in_err-answer_of.ensures))

pub returns-clause-by_index : goal.returns-clause-by_index
unfolding table_question choose
returns-clause-by_index c = λ version.
    let k = c.check_typing-typed.ensures in
    let yes = c.in_ok-answer_of.ensures in
    let all = rules_all _ _ _ _ _ _ _ k.types c.requires.4 c.args.self.now.p.now c.args.self.now.s.now (yes_alone 10 _ (sym yes)) in
    c.answer_of-2.ensures
    ∙ sym (chain_yes _ 10 1 k.value yes ∙ chain_last _ 11 0 (c.check_rules-ruled.ensures ∙ rw c.rows_of-nodes.ensures all) refl)
