use mathlib.Core.Path.{sym, ◌∙◌}
use mathlib.Core.List.{[], ◌∷◌}
use borrow.Author.Rules.{rules}
use Rattle.values.specs.Values.{number_of}
use Rattle.values.proofs.Numbers.{plain64}
use Rattle.semantics.specs.Memory.{bare}
use Rattle.cells.proofs.Overwriting.{overwrite_lent}
use Rattle.finding.proofs.Seeing.{valued}
use Rattle.calling.proofs.Arguments.{value_lost, value_written}
use Rattle.calling.proofs.pass_value.Goals as goal

-- `calling::pass_value` meets its contract: a cell of the lent part, or what the operand's loss comes to.
pub returns-in_default : goal.returns-in_default
returns-in_default c = λ output.
    rw (c.lost.ensures, ← (c.fresh-answer.ensures ∙ valued c.new.result c.new.ensures c.args.k c.eval.ensures))
    (value_lost _ _ _ c.in_default.not-Ok)

pub returns : goal.returns
unfolding bare
returns c =
    let found = sym (c.fresh-answer.ensures ∙ valued c.new.result c.new.ensures c.args.k c.eval.ensures)
    ∙ c.in-Ok.is in
    let n = c.number_of-number in
    let e = rw (plain64 n.result (search rules), n.ensures) at c.put.ensures in
    λ output.
    value_written _ c.args.place (λ v. number_of v ∷ []) found
    (overwrite_lent _ _ _ c.args.s.top c.args.place c.requires.0.top e)
