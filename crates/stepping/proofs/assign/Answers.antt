use mathlib.Core.Path.{sym, ◌∙◌}
use borrow.Author.Rules.{rules}
use mir.Syntax.{w64}
use mir.Val.{SFits}
use Rattle.values.proofs.Numbers.{plain64}
use Rattle.semantics.specs.Memory.{bare}
use Rattle.semantics.specs.Stepping.{assigned}
use Rattle.finding.proofs.Low.{find_within}
use Rattle.finding.proofs.Seeing.{seen, valued}
use Rattle.stepping.proofs.Showing.{shows_yes, shows_no, shows_place, shows_value, shows_lost_place}
use Rattle.stepping.proofs.Showing.{shows_lost_value}
use Rattle.stepping.proofs.assign.Goals as goal

pub returns-in_default : goal.returns-in_default
unfolding assigned
returns-in_default c = λ output.
    shows_lost_place _ (seen c.new-view.result c.new-view.ensures _ c.locate-found.ensures) c.in_default.not-Ok
    c.lost.ensures c.ended_by.ensures

pub is_single-requires : goal.is_single-requires
is_single-requires c =
    (find_within c.args.loaded.now.planned c.requires.0.base _ _ _ (sym (seen c.new-view.result c.new-view.ensures _ c.locate-found.ensures) ∙ c.in-Ok.is)).typed

pub returns-in_default-answer : goal.returns-in_default-answer
unfolding assigned
returns-in_default-answer c = λ output.
    shows_place _ (seen c.new-view.result c.new-view.ensures _ c.locate-found.ensures) c.in-Ok.is
    (shows_yes _ (rw (← c.is_single.ensures) c.if-is_single.true)
    (shows_lost_value _ (c.fresh-answer.ensures ∙ valued c.new-view.result c.new-view.ensures _ c.eval.ensures) c.in_default-answer.not-Ok
    c.lost-in_default-answer.ensures c.ended_by-in_default-answer.ensures))

pub returns-then-is_single : goal.returns-then-is_single
unfolding assigned bare
returns-then-is_single c = λ output.
    let fits : SFits w64 c.number_of.result = search rules in
    shows_place _ (seen c.new-view.result c.new-view.ensures _ c.locate-found.ensures) c.in-Ok.is
    (shows_yes _ (rw (← c.is_single.ensures) c.if-is_single.true)
    (shows_value _ (c.fresh-answer.ensures ∙ valued c.new-view.result c.new-view.ensures _ c.eval.ensures) c.in-Ok-answer.is
    (rw (plain64 _ fits, c.number_of.ensures) at (c.write_cell.ensures output))))

pub returns-in_default-origin : goal.returns-in_default-origin
unfolding assigned
returns-in_default-origin c = λ output.
    shows_place _ (seen c.new-view.result c.new-view.ensures _ c.locate-found.ensures) c.in-Ok.is
    (shows_no _ (rw (← c.is_single.ensures) c.if-is_single.false)
    (shows_lost_place _ (c.fresh-origin.ensures ∙ seen c.new-view.result c.new-view.ensures _ c.find.ensures)
    c.in_default-origin.not-Ok
    c.lost-in_default-origin.ensures c.ended_by-in_default-origin.ensures))

pub copy_object-requires : goal.copy_object-requires
copy_object-requires c =
    let planned = c.args.loaded.now.planned in
    let low = c.requires.0.base in (
      c.requires.0,
      c.requires.1,
      find_within planned low _ _ _ (sym (seen c.new-view.result c.new-view.ensures _ c.locate-found.ensures) ∙ c.in-Ok.is),
      find_within planned low _ _ _ (sym (c.fresh-origin.ensures ∙ seen c.new-view.result c.new-view.ensures _ c.find.ensures) ∙ c.in-Ok-origin.is),
    )

pub returns : goal.returns
unfolding assigned
returns c = λ output.
    shows_place _ (seen c.new-view.result c.new-view.ensures _ c.locate-found.ensures) c.in-Ok.is
    (shows_no _ (rw (← c.is_single.ensures) c.if-is_single.false)
    (shows_place _ (c.fresh-origin.ensures ∙ seen c.new-view.result c.new-view.ensures _ c.find.ensures)
    c.in-Ok-origin.is (c.copy_object.ensures output)))
