-- Question 14 part by part, as the code asks it.
use mathlib.Core.Path.{◌≡◌, refl, ◌∙◌}
use mathlib.Core.Bool.{true, false}
use mathlib.Core.List.{List}
use Prim.Native.Nat.{ℕ, suc, ◌+◌, ◌≤◌, ◌<◌}
use native.Mathlib.Omega.{arith}
use borrow.Author.Tests.{leb-true, le-leb}
use lib.Dec.{leb}
use lib.IntN.{ℤ}
use lib.ListN.{length}
use Rattle.prelude.specs.Choice.{◌also◌}
use Rattle.prelude.specs.Cells.{Filled}
use Rattle.prelude.proofs.Cells.{filled_at}
use Rattle.prelude.proofs.Choice.{also_true, also_left, also_right, also_pass, also_yes, also_first}
use Rattle.image.specs.Rows.{rows_of}
use Rattle.frames.specs.Variables.{globals_of}
use Rattle.frames.specs.Procedures.{first_from, first_variable}
use Rattle.frames.proofs.Claiming.{globals_within}
use Rattle.places.specs.Places.{room_from, global_cells}
use Rattle.statements.specs.Statements.{procedure_at}
use Rattle.semantics.specs.declared.Registers.{Registers}
use Rattle.semantics.specs.declared.RunResult.{RunResult}
use Rattle.semantics.specs.Layout.{Program}
use Rattle.semantics.specs.Running.{program_of}
use Rattle.semantics.proofs.Demand3.{program_accepted}
use Rattle.asking.specs.Asking.{room_of}
use Rattle.asking.specs.State.{chain, frames_of, inside_kept, sound_of}
use Rattle.asking.specs.Passes.{Walked}
use Rattle.asking.specs.Continuing.{unfinished, within_lent, mark_within, question14}
use Rattle.asking.proofs.Passing.{sound_passes}
use Rattle.access.specs.Ready.{Planned, Ready}
use Rattle.access.proofs.Bounds.{procedures_few}
use Rattle.contents.specs.Kinds.{even_of}
use Rattle.contents.specs.Reading.{Even}
use Rattle.unwinding.proofs.Walking.{room_least, walked_base, walked_links}
use Rattle.unwinding.proofs.Bodies.{inside_missing, body_inside}
use Rattle.unwinding.specs.Going.{Going}
use Rattle.unwinding.proofs.Going.{going_start}
use Rattle.referents.proofs.Lending.{typed_plan}
use Rattle.resuming.specs.Reading.{ReadableImage, frames_sound}

-- ---- what is read

-- by the kinds of an accepted image's types
pub readable_of : {image plan even : List ℕ} {store : List ℤ} → Planned image plan
    → Even (program_of image).types (program_of image).fields even → length store ≤ 65536
    → ReadableImage image plan even store
readable_of p evens most =
    record { planned = p; readable = record { typed = typed_plan p; evens = evens; most = most } }

-- which a table holds that was filled with them
pub evens_by : {t f old even : List ℕ} → rows_of t ≤ length old → Filled 0 (rows_of t) (even_of t f) old even
    → Even t f even
evens_by rows filled = record { rows = rw filled.cells rows; each = filled_at filled }

-- the globals are the variables before procedure 0's
pub globals_first : (g : Program) → first_variable g.variables g.procedures 0 ≡ globals_of g.variables
unfolding first_variable first_from
globals_first g = refl

pub globals_there : {image plan : List ℕ} → Planned image plan
    → 0 + globals_of (program_of image).variables ≤ rows_of (program_of image).variables
globals_there {image} p = omega (arith, globals_within (program_of image).variables)

-- they lie below top
pub globals_room : (g : Program) (store : List ℤ) (q base top : ℕ)
    → Walked g (chain g store (suc base) q base) store base top
    → room_from g.types g.fields g.variables 0 (globals_of g.variables) ≤ top
unfolding room_of global_cells
globals_room g store q base top walked =
    let at : Going g store (λ qs. Unit {0}) q base top =
    going_start g _ base q base top (also_yes walked.ends walked.links) tt in
    omega (arith, room_least g at.older, walked_base g at.walked, walked_links g at.walked)

-- ---- a sound state

module _ (image : List ℕ) {plan : List ℕ} (ready : Ready image plan) (s : Registers) (store : List ℤ)
    (few : length store ≤ 65536) where
  abbrev g : Program
  g = program_of image

  asked : sound_of g s store
      ≡ (leb s.top (length store)
      also inside_kept g (procedure_at g.procedures s.row) s.row
      also frames_sound g (frames_of g s store) store s.base s.top)
  unfolding frames_sound
  asked = sound_passes g s store ∙ also_pass _ (le-leb _ _ few)

  -- a row behind the last lies in no body
  pub sound_row : rows_of g.statements ≤ s.row → sound_of g s store ≡ false
  sound_row past =
      asked ∙ also_right (leb s.top (length store)) (also_left _ (inside_missing ready.planned _ s.row past))

  pub sound_frames : s.top ≤ length store → s.row < rows_of g.statements
      → sound_of g s store
      ≡ frames_sound g (chain g store (suc s.base) (procedure_at g.procedures s.row) s.base) store s.base
      s.top
  unfolding frames_of
  sound_frames within there =
      let body = (program_accepted image ready.planned.checked.accepted).body s.row there in
      asked ∙ also_pass _ (le-leb _ _ within) ∙ also_pass _ (body_inside ready.planned _ s.row body)

-- the procedure of a statement
pub procedure_low : (image : List ℕ) {plan : List ℕ} → Ready image plan → {r : ℕ}
    → r < rows_of (program_of image).statements → procedure_at (program_of image).procedures r < 64
procedure_low image ready there =
    let body = (program_accepted image ready.planned.checked.accepted).body _ there in
    omega (arith, body.procedure, procedures_few ready.planned)

-- ---- question 14

module _ (g : Program) (input store output : List ℤ) (r : RunResult) (n : ℕ) where
  pub question_unfinished : unfinished r ≡ false → question14 g input store output r n ≡ false
  unfolding question14
  question_unfinished fails = also_left _ fails

  pub question_within : within_lent input output r n ≡ false → question14 g input store output r n ≡ false
  unfolding question14
  question_within fails = also_right (unfinished r) (also_right (sound_of g r.at store) (also_left _ fails))

  pub question_marked : mark_within store r ≡ false → question14 g input store output r n ≡ false
  unfolding question14
  question_marked fails =
      also_right (unfinished r) (also_right (sound_of g r.at store) (also_right (within_lent input output r n) fails))

  pub question_sound : unfinished r ≡ true → within_lent input output r n ≡ true → mark_within store r ≡ true
      → question14 g input store output r n ≡ sound_of g r.at store
  unfolding question14
  question_sound first lent marked = also_pass _ first ∙ also_first (sound_of g r.at store) (also_yes lent marked)

-- a mark that passes lies between top and the store's end
pub marked_top : (store : List ℤ) (r : RunResult) → mark_within store r ≡ true → r.at.top ≤ length store
unfolding mark_within
marked_top store r marked =
    let (low, high) = also_true _ _ marked in
    omega (arith, leb-true r.at.top r.mark low, leb-true r.mark (length store) high)
