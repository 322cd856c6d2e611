use mathlib.Core.Path.{sym, ◌∙◌}
use Rattle.values.specs.Values.{bind}
use Rattle.values.proofs.Numbers.{plain64}
use Rattle.values.proofs.Binding.{bind_value}
use Rattle.cases_values.specs.Cases.{number_case}
use borrow.Author.Rules.{rules}
use Rattle.cases_values.proofs.number_case.Goals as goal

-- `cases_values::number_case` meets its contract: the operand, then its number in a cell.
pub returns-in_err-operand : goal.returns-in_err-operand
unfolding number_case bind
returns-in_err-operand c = search rules

pub returns : goal.returns
unfolding number_case
returns c =
    c.cell.ensures
    ∙ rw (plain64 c.number_of.result (search rules), c.number_of.ensures, c.into.ensures)
    (sym (rw (← c.operand_at.ensures) (bind_value c.in_ok-operand.was _)))
