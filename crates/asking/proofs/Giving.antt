-- What the code of a continuation has to show: the bare machine's run, or a refusal.
use Rattle.std.specs.Prelude.{Ok}
use mathlib.Core.Path.{◌≡◌, ◌∙◌}
use mathlib.Core.Bool.{true, false}
use mathlib.Core.List.{List}
use Prim.Native.Nat.{ℕ, ◌≤◌}
use native.Mathlib.Omega.{arith}
use borrow.Author.Tests.{eq-eqb}
use lib.IntN.{ℤ}
use lib.ListN.{length, length-append}
use Rattle.prelude.proofs.Choice.{choose_yes, choose_no, also_true}
use Rattle.image.specs.Rows.{Bytes}
use Rattle.statements.proofs.Bodies.{end_within}
use Rattle.checker.specs.Check.{check_of, row_of}
use Rattle.semantics.specs.declared.Registers.{Registers}
use Rattle.semantics.specs.declared.RunResult.{RunResult}
use Rattle.semantics.specs.Memory.{bare}
use Rattle.semantics.specs.Layout.{Program}
use Rattle.semantics.specs.Running.{program_of, Ended, run_from, refusal, numbers_of, refused_with}
use Rattle.semantics.specs.Sound.{Sound, frame_wants, wants}
use Rattle.semantics.proofs.Simulation.{erase_ended}
use Rattle.semantics.proofs.Giving.{GivesBack, result_has, gives_refused, gives_ended}
use Rattle.semantics.proofs.Demand3.{program_accepted, program_bytes}
use Rattle.semantics.proofs.Outcomes.{refusal_none, run_ok}
use Rattle.asking.specs.State.{sound_of}
use Rattle.asking.specs.Resuming.{resumed}
use Rattle.asking.specs.Continuing.{question14, continue_refusal, continued_of, continue_result, continued_store}
use Rattle.asking.specs.Continuing.{continued_output}
use Rattle.asking.proofs.Built.{yes_sound}
use Rattle.asking.proofs.Resuming.{resumed_cells, resumed_bare}
use Rattle.asking.proofs.Continuing.{question14_exact, continue_none, none_continue}

-- the numbers that a sound state has room for
pub record Ranged (s : Registers) (store : List ℤ) : Type 0 where
  pub row : s.row ≤ 65536
  pub base : s.base ≤ 65536
  pub top : s.top ≤ length store
  pub few : length store ≤ 65536

module _ (image : List ℕ) (input store output : List ℤ) (from : RunResult) (steps : ℕ) where
  -- a continuation's numbers, every cell of the store and every output place
  abbrev pub Continues : RunResult → List ℤ → List ℤ → Type 0
  Continues =
      GivesBack (continue_refusal image input store output from steps) (row_of (check_of image))
      (continued_of image input store output from steps) store output

  -- they are those of its contract
  pub continue_gives : {r : RunResult} {cells places : List ℤ} → Continues r cells places
      → (r ≡ continue_result image input store output from steps)
      × ((cells ≡ continued_store image input store output from steps)
      × (places ≡ continued_output image input store output from steps))
  unfolding continue_result continued_store continued_output
  continue_gives h = (h.result, (h.left, h.sent))

  -- a refusal by question 14, "row 0"
  pub continues_14 : refusal image store ≡ 0 → question14 (program_of image) input store output from steps ≡ false
      → {r : RunResult} → r ≡ refused_with 14 0 → Continues r store output
  unfolding continue_refusal row_of
  continues_14 none fails result =
      gives_refused (choose_yes _ _ _ (eq-eqb _ 0 none) ∙ choose_no _ _ _ fails)
      (rw (refusal_none image store none).0) (λ z. absurd (omega arith)) result

  -- ---- a continuation

  module _ (bytes : Bytes image) (none : refusal image store ≡ 0)
      (passes : question14 (program_of image) input store output from steps ≡ true) where
    abbrev g : Program
    g = program_of image

    abbrev accepted : check_of image ≡ Ok tt
    accepted = (refusal_none image store none).0

    passes_sound : sound_of g from.at store ≡ true
    unfolding question14
    passes_sound = let (zeros, others) = also_true _ _ passes in (also_true _ _ others).0

    state_sound : Sound g (resumed g from.at store output)
    state_sound = yes_sound g (program_accepted image accepted) from.at store output passes_sound

    -- from its state steps can be taken
    pub continued_ranged : Ranged from.at store
    unfolding resumed wants
    continued_ranged =
        let ok = program_accepted image accepted in
        let sound = state_sound in
        let here = sound.inside in
        let cells = resumed_cells g from.at store output in
        let within = end_within g.variables g.procedures g.statements ok.procedures
        sound.newest.procedure here.procedure in
        let few = ok.counts.statements in
        let most = sound.lent in
        let long = sound.stored in
        let parts = length-append (wants g sound.others) (frame_wants g sound.newest) in
        record {
          row = omega (arith, here.end);
          base = omega (arith, sound.begins, sound.ends);
          top = omega arith;
          few = omega arith;
        }

    -- with a mark that is not below top
    pub continued_marked : from.at.top ≤ from.mark
    continued_marked = ((question14_exact image accepted input store output from steps).0 passes).mark_top

    -- its outcome is one of the paper's
    pub continued_outcome : (continued_of image input store output from steps).outcome ≤ 2
    unfolding continued_of
    continued_outcome =
        (run_ok g (program_accepted image accepted) (program_bytes image bytes) input steps from.steps from.mark
        (resumed g from.at store output) state_sound).outcome

    -- it is never stuck
    pub continued_unstuck : (continued_of image input store output from steps).outcome ≡ 3 → ⊥
    continued_unstuck three = absurd (omega (arith, continued_outcome))

    -- the code's run, on the numbers alone
    abbrev ran : Ended ℤ
    ran = run_from bare g input steps from.steps from.mark (record { at = from.at; cells = store; output = output })

    -- is the tagged machine's
    pub continued_bare : ran ≡ erase_ended (continued_of image input store output from steps)
    unfolding continued_of
    continued_bare =
        resumed_bare g (program_accepted image accepted) (program_bytes image bytes) input from.at store output
        passes_sound steps from.steps from.mark

    -- so what it gives is what is asked for
    pub continues_run : {r : RunResult} {cells places : List ℤ} → r ≡ numbers_of ran → ran.state.cells ≡ cells
        → ran.state.output ≡ places → Continues r cells places
    continues_run = gives_ended (none_continue image input store output from steps none passes) continued_bare

-- "outcome (0 steps used up, 1 finished, 2 trapped)": whatever the image, the store and the earlier result
pub continue_outcome : (image : List ℕ) → Bytes image → (input store output : List ℤ) (from : RunResult) (steps : ℕ)
    → (continue_result image input store output from steps).outcome ≤ 2
unfolding continue_result numbers_of refused_with
continue_outcome image bytes input store output from steps =
    result_has _ _ _ (λ r. r.outcome ≤ 2)
    (λ e. let (none, passes) = continue_none image input store output from steps e in
    continued_outcome image input store output from steps bytes none passes)
    (omega arith)
