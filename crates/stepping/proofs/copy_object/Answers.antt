use mathlib.Core.Path.{◌≡◌, refl, sym, ◌∙◌}
use native.Mathlib.Omega.{arith}
use lib.ListN.{length}
use Rattle.semantics.specs.Memory.{part_at}
use Rattle.semantics.specs.Stepping.{copied}
use Rattle.access.proofs.Bounds.{size_low}
use Rattle.cells.proofs.Overwriting.{part_length}
use Rattle.calling.specs.Showing.{Shows.shows_trap, Shows.shows_stuck}
use Rattle.stepping.proofs.Showing.{shows_by, shows_yes, shows_no, shows_part, shows_no_part, not_written}
use Rattle.stepping.proofs.Showing.{shows_written}
use Rattle.stepping.proofs.copy_object.Goals as goal
use Rattle.stepping.proofs.copy_object.Goals.{Else-s-source}

-- `stepping::copy_object` meets its contract: trap 3 first, then both ends below top, then the copy.
-- the source's part has the target type's cells
many : (c : Else-s-source) → length (part_at c.args.store.now c.args.source.address c.size_of-size.result)
    ≡ c.size_of-size.result
many c =
    let c = c in
    part_length _ _ _ (omega (arith, c.if-s-source.false, c.requires.0.top))

pub returns-then-other_record : goal.returns-then-other_record
unfolding copied
returns-then-other_record c = λ output. shows_yes _ (sym c.other_record.ensures ∙ c.if-other_record.true) (shows_trap refl refl)

pub overflow_add-source : goal.overflow_add-source
overflow_add-source c =
    let low = size_low c.args.loaded.now.planned _ c.requires.2.typed in
    record { fits = omega (arith, c.size_of-size.ensures, low, c.requires.3.low) }

pub returns-then-s-source : goal.returns-then-s-source
unfolding copied
returns-then-s-source c = λ output.
    rw (← c.size_of-size.ensures)
    (shows_no _ (sym c.other_record.ensures ∙ c.if-other_record.false) (shows_no_part _ _ _ c.if-s-source.true))

pub returns-then-s-target : goal.returns-then-s-target
unfolding copied
returns-then-s-target c = λ output.
    rw (← c.size_of-size.ensures)
    (shows_no _ (sym c.other_record.ensures ∙ c.if-other_record.false)
    (shows_part _ _ _ c.if-s-source.false
    (shows_by (not_written _ _ _ (rw (many (goal.at.returns-then-s-target c).Else-s-source) c.if-s-target.true)) (shows_stuck refl refl))))

pub returns : goal.returns
unfolding copied
returns c = λ output.
    rw (← c.size_of-size.ensures)
    (shows_no _ (sym c.other_record.ensures ∙ c.if-other_record.false)
    (shows_part _ _ _ c.if-s-source.false
    (shows_written _ _ c.requires.0 c.requires.1 (rw (many (goal.at.returns c).Else-s-source) c.if-s-target.false)
    c.copy.ensures c.at_row.ensures)))
