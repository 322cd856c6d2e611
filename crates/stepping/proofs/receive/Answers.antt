use mathlib.Core.Path.{refl, ap}
use native.Mathlib.Omega.{arith}
use borrow.Author.Tests.{lt-ltb, le-ltb}
use borrow.Author.Rules.{rules}
use lib.IntN.{pos}
use lib.ListN.{get_or}
use mir.Syntax.{w32}
use mir.Val.{SFits}
use Rattle.values.proofs.Numbers.{cast_fits, wide}
use Rattle.semantics.specs.Stepping.{after_read, received}
use Rattle.calling.specs.Showing.{Shows.shows_trap, Shows.shows_stuck}
use Rattle.stepping.proofs.Showing.{shows_by, shows_yes, shows_no, shows_place, shows_lost_place, shows_read}
use Rattle.stepping.proofs.Showing.{not_written}
use Rattle.finding.proofs.Seeing.{seen}
use Rattle.stepping.proofs.receive.Goals as goal

pub returns-in_default : goal.returns-in_default
unfolding received
returns-in_default c = λ output.
    shows_lost_place _ (seen c.new.result c.new.ensures _ c.find-found.ensures) c.in_default.not-Ok
    c.lost.ensures c.ended_by.ensures

pub returns-then-input-s : goal.returns-then-input-s
unfolding received
returns-then-input-s c = λ output.
    shows_place _ (seen c.new.result c.new.ensures _ c.find-found.ensures) c.in-Ok.is
    (shows_no _ (le-ltb _ _ c.if-input-s.true) (shows_trap refl refl))

pub returns-then-s-target : goal.returns-then-s-target
unfolding received after_read
returns-then-s-target c = λ output.
    shows_place _ (seen c.new.result c.new.ensures _ c.find-found.ensures) c.in-Ok.is
    (shows_yes _ (lt-ltb _ _ c.if-input-s.false)
    (shows_by (ap after_read (not_written _ _ _ (omega arith))) (shows_stuck refl refl)))

pub overflow_cast-input : goal.overflow_cast-input
overflow_cast-input c =
    let fits : SFits w32 (get_or c.args.input.now c.args.s.read (pos 0)) = search rules in
    cast_fits _ fits

pub returns : goal.returns
unfolding received
returns c = λ output.
    let fits : SFits w32 (get_or c.args.input.now c.args.s.read (pos 0)) = search rules in
    shows_place _ (seen c.new.result c.new.ensures _ c.find-found.ensures)
    c.in-Ok.is
    (shows_yes _ (lt-ltb _ _ c.if-input-s.false)
    (shows_read _ _ c.requires.0 c.requires.1 c.if-s-target.false fits
    (rw (wide _ fits) at c.put.ensures)))
