use mathlib.Core.Path.{◌≡◌, sym, ◌∙◌}
use mir.Syntax.{w32}
use mir.Val.{SFits}
use Rattle.values.specs.Values.{bind}
use Rattle.values.proofs.Numbers.{plain32, plain64}
use Rattle.values.proofs.Binding.{bind_value}
use Rattle.cases_values.specs.Cases.{cell_case, cell_with}
use Rattle.cases_values.proofs.Laws.{no_integer}
use borrow.Author.Rules.{rules}
use Rattle.cases_values.proofs.cell_case.Goals as goal
use Rattle.cases_values.proofs.cell_case.Goals.{In_ok-high, In-Int}

-- `cases_values::cell_case` meets its contract: the upper half, then the cell.
at_high : (c : In_ok-high) → let s = c.args.s.now in cell_case s ≡ cell_with s c.in_ok-high.high
unfolding cell_case
at_high c = rw (← c.operand_at.ensures) (bind_value c.in_ok-high.was _)

-- the upper half is an INTEGER
h_fits : (c : In-Int) → SFits w32 c.in-Int.h
h_fits c = search rules

pub returns-in_err-high : goal.returns-in_err-high
unfolding cell_case bind
returns-in_err-high c = search rules

pub returns-in_default : goal.returns-in_default
returns-in_default c =
    sym (at_high (goal.at.returns-in_default c).In_ok-high ∙ no_integer _ _ c.in_default.not-Int)

pub returns : goal.returns
unfolding cell_with
returns c =
    c.cell.ensures
    ∙ rw (plain64 c.wide_at.result (search rules), c.wide_at.ensures, plain32 _ (h_fits (goal.at.returns c).In-Int))
    (rw (c.half_at-2.ensures, c.half_at.ensures, c.into.ensures)
    (sym (at_high (goal.at.returns c).In_ok-high ∙ rw c.in-Int.is)))
