use borrow.Enum.Refused.{opened}
use mathlib.Core.Path.{refl}
use native.Mathlib.Omega.{arith}
use borrow.Author.Tests.{lt-ltb, le-ltb}
use borrow.Author.Rules.{rules}
use mir.Syntax.{w32}
use mir.Val.{SFits}
use Rattle.values.proofs.Numbers.{plain32}
use Rattle.semantics.specs.Stepping.{sent}
use Rattle.calling.specs.Showing.{Shows.shows_trap, Shows.shows_goes}
use Rattle.stepping.proofs.Showing.{shows_yes, shows_no, shows_value, shows_integer, shows_lost_value}
use Rattle.stepping.proofs.Showing.{shows_no_integer}
use Rattle.finding.proofs.Seeing.{valued}
use Rattle.stepping.proofs.send.Goals as goal

pub returns-in_default : goal.returns-in_default
unfolding sent
returns-in_default c =
    shows_lost_value _ (valued c.new.result c.new.ensures _ c.eval-answer.ensures) c.in_default.not-Ok
    c.lost.ensures c.ended_by.ensures

pub returns-in_default-value : goal.returns-in_default-value
unfolding sent
returns-in_default-value c =
    shows_value _ (valued c.new.result c.new.ensures _ c.eval-answer.ensures) c.in-Ok.is
    (shows_no_integer _ _ (opened c.in_default-value.in_default-value-own.keys2))

pub returns-then-output-s : goal.returns-then-output-s
unfolding sent
returns-then-output-s c =
    shows_value _ (valued c.new.result c.new.ensures _ c.eval-answer.ensures) c.in-Ok.is
    (shows_integer _ c.in-Int.is
    (shows_no _ (le-ltb _ _ c.if-output-s.true) (shows_trap refl refl)))

pub returns : goal.returns
unfolding sent
returns c =
    let fits : SFits w32 c.in-Int.number = search rules in
    rw (plain32 _ fits)
    (shows_value _ (valued c.new.result c.new.ensures _ c.eval-answer.ensures) c.in-Ok.is
    (shows_integer _ c.in-Int.is
    (shows_yes _ (lt-ltb _ _ c.if-output-s.false) (shows_goes refl (record {
      row = omega (arith, c.requires.1);
      base = c.requires.0.base;
      top = c.requires.0.top;
    })))))
