use mathlib.Core.Path.{sym, ◌∙◌}
use native.Mathlib.Omega.{arith}
use Rattle.prelude.specs.Choice.{choose}
use Rattle.access.specs.Ready.{table_of}
use Rattle.resuming.proofs.Passing.{sound_row, sound_frames, procedure_low}
use Rattle.resuming.proofs.sound.Goals as goal

pub returns-then-rows_of-s : goal.returns-then-rows_of-s
unfolding table_of choose
returns-then-rows_of-s c =
    let rows = rw c.table.ensures at c.rows_of.ensures in
    sym (sound_row _ c.requires.2 _ _ c.requires.1 (rw rows at c.if-rows_of-s.true))

pub procedure_of-q-requires : goal.procedure_of-q-requires
unfolding table_of choose
procedure_of-q-requires c =
    let rows = rw c.table.ensures at c.rows_of.ensures in
    (rw rows at c.if-rows_of-s.false, c.requires.2)

pub overflow_cast-q : goal.overflow_cast-q
unfolding table_of choose
overflow_cast-q c =
    let rows = rw c.table.ensures at c.rows_of.ensures in
    omega (arith, procedure_low _ c.requires.2 (rw rows at c.if-rows_of-s.false), c.procedure_of-q.ensures)

pub returns : goal.returns
unfolding table_of choose
returns c =
    let rows = rw c.table.ensures
    at c.rows_of.ensures in
    c.frames_sound.ensures
    ∙ rw c.procedure_of-q.ensures
    (sym (sound_frames _ c.requires.2 _ _ c.requires.1
    c.requires.0 (rw rows at c.if-rows_of-s.false)))
