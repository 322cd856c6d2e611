use borrow.Enum.Refused.{opened}
use Prim.Native.Nat.{◌+◌, ◌≤◌}
use native.Mathlib.Omega.{arith}
use borrow.Author.Rules.{rules}
use Rattle.prelude.proofs.Choice.{choose_yes, choose_no}
use Rattle.semantics.specs.Stepping.{following, jumped}
use Rattle.stepping.proofs.Showing.{shows_value, shows_boolean, shows_lost_value, shows_no_boolean, shows_row}
use Rattle.finding.proofs.Seeing.{valued}
use Rattle.stepping.proofs.jump.Goals as goal

pub returns-in_default : goal.returns-in_default
unfolding jumped
returns-in_default c = λ output.
    shows_lost_value _ (valued c.new.result c.new.ensures _ c.eval-answer.ensures) c.in_default.not-Ok
    c.lost.ensures c.ended_by.ensures

pub returns-in_default-value : goal.returns-in_default-value
unfolding jumped
returns-in_default-value c = λ output.
    shows_value _ (valued c.new.result c.new.ensures _ c.eval-answer.ensures) c.in-Ok.is
    (shows_no_boolean _ _ (opened c.in_default-value.in_default-value-own.keys2))

pub returns-then-holds : goal.returns-then-holds
unfolding jumped following
returns-then-holds c = λ output.
    let low : c.args.s.row + 1 ≤ 65536 = omega (arith, c.requires.1) in
    shows_value _ (valued c.new.result c.new.ensures _ c.eval-answer.ensures) c.in-Ok.is
    (shows_boolean _ c.in-Bool.is
    (shows_row (choose_yes _ _ _ c.if-holds.true) c.at_row.ensures low c.requires.0.base
    c.requires.0.top))

pub returns : goal.returns
unfolding jumped
returns c = λ output.
    let low : c.args.statement.b ≤ 65536 = search rules in
    shows_value _ (valued c.new.result c.new.ensures _ c.eval-answer.ensures) c.in-Ok.is
    (shows_boolean _ c.in-Bool.is
    (shows_row (choose_no _ _ _ c.if-holds.false) c.at_row-2.ensures low c.requires.0.base
    c.requires.0.top))
