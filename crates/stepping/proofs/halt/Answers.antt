use borrow.Enum.Refused.{opened}
use mathlib.Core.Path.{refl}
use borrow.Author.Rules.{rules}
use mir.Syntax.{w32}
use mir.Val.{SFits}
use Rattle.values.proofs.Numbers.{plain32}
use Rattle.semantics.specs.Stepping.{halted}
use Rattle.calling.specs.Showing.{Shows.shows_trap}
use Rattle.stepping.proofs.Showing.{shows_value, shows_integer, shows_lost_value, shows_no_integer}
use Rattle.finding.proofs.Seeing.{valued}
use Rattle.stepping.proofs.halt.Goals as goal

pub returns-in_default : goal.returns-in_default
unfolding halted
returns-in_default c = λ output.
    shows_lost_value _ (valued c.new.result c.new.ensures _ c.eval-answer.ensures) c.in_default.not-Ok
    c.lost.ensures c.ended_by.ensures

pub returns-in_default-value : goal.returns-in_default-value
unfolding halted
returns-in_default-value c = λ output.
    shows_value _ (valued c.new.result c.new.ensures _ c.eval-answer.ensures) c.in-Ok.is
    (shows_no_integer _ _ (opened c.in_default-value.in_default-value-own.keys2))

pub returns : goal.returns
unfolding halted
returns c = λ output.
    let fits : SFits w32 c.in-Int.number = search rules in
    rw (plain32 _ fits)
    (shows_value _ (valued c.new.result c.new.ensures _ c.eval-answer.ensures) c.in-Ok.is
    (shows_integer _ c.in-Int.is (shows_trap refl refl)))
