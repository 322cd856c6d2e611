-- A continuation: who passes question 14, that it is never stuck, and that it adds to what went before it.
--
-- The claims are `question14_exact` and `demand3_continued`, and at the end `run_passes`, `continue_passes`,
-- `continue_is_run` and `continue_again`. The definitions that they cite stand in specs/Continuing.
use Rattle.std.specs.Prelude.{Ok}
use mathlib.Core.Path.{◌≡◌, refl, sym, ◌∙◌, ap}
use mathlib.Core.Bool.{true}
use mathlib.Core.List.{List}
use mathlib.Core.Logic.{⊎_elim}
use Prim.Native.Nat.{ℕ, ◌+◌, ◌≤◌}
use native.Mathlib.Omega.{arith}
use borrow.Author.Tests.{leb-true, le-leb, eqb-true, eq-eqb, ne_eqb}
use lib.Dec.{eqb}
use lib.IntN.{ℤ}
use lib.ListN.{length, length-map}
use Rattle.prelude.specs.Choice.{choose, ◌also◌}
use Rattle.prelude.proofs.Choice.{choose_yes, choose_no, choose_cases, also_true, clash}
use Rattle.image.specs.Rows.{Bytes}
use Rattle.checker.specs.Check.{check_of}
use Rattle.checker.proofs.Accepted.{AcceptedTables}
use Rattle.semantics.specs.declared.RunResult.{RunResult}
use Rattle.semantics.specs.Memory.{Cell, tagged}
use Rattle.semantics.specs.Layout.{Program}
use Rattle.semantics.specs.Stepping.{State}
use Rattle.semantics.specs.Running.{program_of, first_top, fresh, Ended, run_from, refusal, ran_of, numbers_of}
use Rattle.semantics.specs.Running.{result_by, store_by, output_by, result_of, store_after, output_after}
use Rattle.semantics.specs.Sound.{Sound}
use Rattle.semantics.specs.After.{after}
use Rattle.semantics.specs.Demand3.{SoundAfter}
use Rattle.semantics.proofs.Simulation.{erase_ended}
use Rattle.semantics.proofs.Beginning.{fresh_sound, fresh_length}
use Rattle.semantics.proofs.Demand3.{program_accepted, program_bytes, demand3_from}
use Rattle.semantics.proofs.Outcomes.{refusal_none, none_refusal, steps_used, run_ok, run_kept}
use Rattle.asking.specs.Resuming.{resumed}
use Rattle.asking.specs.Continuing.{Continuable, unfinished, within_lent, mark_within, question14, continue_refusal}
use Rattle.asking.specs.Continuing.{continued_of, continue_result, continued_store, continued_output, Left, after_run}
use Rattle.asking.specs.Continuing.{after_continue, refusal_on}
use Rattle.asking.proofs.Built.{number_is, yes_sound}
use Rattle.asking.proofs.Told.{number_same, sound_told}
use Rattle.asking.proofs.Resuming.{resumed_told, resumed_cells, continue_adds}

-- ---- question 14

module _ (g : Program)
    (ok : AcceptedTables g.types g.fields g.variables g.procedures g.nodes g.statements)
    (input : List ℤ) where
  module _ (store output : List ℤ) (r : RunResult) (n : ℕ) where
    -- by its parts, in any order
    yes_passes : Continuable g input store output r n → question14 g input store output r n ≡ true
    unfolding question14 unfinished within_lent mark_within ◌also◌
    yes_passes c =
        simp (
          eq-eqb r.refusal 0 c.refusal,
          eq-eqb r.fault 0 c.fault,
          eq-eqb r.outcome 0 c.outcome,
          eq-eqb r.trap 0 c.trap,
          number_same r.halt 0 c.halt,
          resumed_told g r.at store output ok c.sound,
          le-leb r.at.read (length input) c.read,
          le-leb r.at.written (length output) c.written,
          le-leb (r.steps + n) 4294967295 c.steps,
          le-leb r.at.top r.mark c.mark_top,
          le-leb r.mark (length store) c.mark_store,
        )

    passes_yes : question14 g input store output r n ≡ true → Continuable g input store output r n
    unfolding question14 unfinished within_lent mark_within
    passes_yes e =
        let (zeros, e₁) = also_true _ _ e in
        let (sound, e₂) = also_true _ _ e₁ in
        let (lent, marks) = also_true _ _ e₂ in
        let (a, zeros₁) = also_true _ _ zeros in
        let (b, zeros₂) = also_true _ _ zeros₁ in
        let (c, zeros₃) = also_true _ _ zeros₂ in
        let (d, h) = also_true _ _ zeros₃ in
        let (read, lent₁) = also_true _ _ lent in
        let (written, steps) = also_true _ _ lent₁ in
        let (top, most) = also_true _ _ marks in
        record {
          refusal = eqb-true _ _ a;
          fault = eqb-true _ _ b;
          outcome = eqb-true _ _ c;
          trap = eqb-true _ _ d;
          halt = number_is _ 0 h;
          sound = yes_sound g ok r.at store output sound;
          read = leb-true _ _ read;
          written = leb-true _ _ written;
          steps = leb-true _ _ steps;
          mark_top = leb-true _ _ top;
          mark_store = leb-true _ _ most;
        }

-- where the image is accepted, "14" is answered by yes just where a continuation may go on
pub question14_exact : (image : List ℕ) → check_of image ≡ Ok tt → (input store output : List ℤ) (r : RunResult)
    (n : ℕ)
    → (question14 (program_of image) input store output r n ≡ true
    → Continuable (program_of image) input store output r n)
    × (Continuable (program_of image) input store output r n
    → question14 (program_of image) input store output r n ≡ true)
question14_exact image accepted input store output r n =
    let ok = program_accepted image accepted in (
      passes_yes (program_of image) ok input store output r n,
      yes_passes (program_of image) ok input store output r n,
    )

-- "What was certain from a fresh start is now certain from every state that question 14 passes."
pub demand3_continued : (image : List ℕ) → Bytes image → check_of image ≡ Ok tt → (input store output : List ℤ)
    (r : RunResult) (lent : ℕ) → question14 (program_of image) input store output r lent ≡ true → (n : ℕ)
    → SoundAfter (program_of image) input
    (after tagged (program_of image) input n (resumed (program_of image) r.at store output))
demand3_continued image bytes accepted input store output r lent passes n =
    demand3_from image bytes accepted input (resumed (program_of image) r.at store output)
    ((question14_exact image accepted input store output r lent).0 passes).sound n

-- ---- refusals

-- a continuation without refusal
pub continue_none : (image : List ℕ) (input store output : List ℤ) (r : RunResult) (n : ℕ)
    → continue_refusal image input store output r n ≡ 0
    → (refusal image store ≡ 0) × (question14 (program_of image) input store output r n ≡ true)
unfolding continue_refusal
continue_none image input store output r n e =
    ⊎_elim
    (λ a. ⊎_elim (λ b. (eqb-true _ _ a.0, b.0)) (λ b. absurd (omega (arith, b.1)))
    (choose_cases (question14 (program_of image) input store output r n) a.1))
    (λ a. clash (sym (eq-eqb _ 0 a.1) ∙ a.0))
    (choose_cases (eqb (refusal image store) 0) e)

-- and back
pub none_continue : (image : List ℕ) (input store output : List ℤ) (r : RunResult) (n : ℕ) → refusal image store ≡ 0
    → question14 (program_of image) input store output r n ≡ true → continue_refusal image input store output r n ≡ 0
unfolding continue_refusal
none_continue image input store output r n none passes =
    choose_yes _ _ _ (eq-eqb _ 0 none) ∙ choose_yes _ _ _ passes

-- a refusal of the run's is the continuation's
pub continue_refused : (image : List ℕ) (input store output : List ℤ) (r : RunResult) (n q : ℕ)
    → refusal image store ≡ q → (q ≡ 0 → ⊥) → continue_refusal image input store output r n ≡ q
unfolding continue_refusal
continue_refused image input store output r n q e some = choose_no _ _ _ (ne_eqb _ 0 (λ z. some (sym e ∙ z))) ∙ e

-- ---- what calls leave

-- by where the run ended, in numbers
abbrev pub left_by : Ended ℤ → Left
left_by e = record { result = numbers_of e; store = e.state.cells; output = e.state.output }

pub run_left : (image : List ℕ) (input store output : List ℤ) (n : ℕ) → refusal image store ≡ 0
    → after_run image input store output n ≡ left_by (erase_ended (ran_of image input store output n))
unfolding after_run result_of store_after output_after result_by store_by output_by numbers_of choose
run_left image input store output n none = rw (eq-eqb _ 0 none)

pub continue_left : (image : List ℕ) (input : List ℤ) (l : Left) (n : ℕ) → refusal_on image input l n ≡ 0
    → after_continue image input l n
    ≡ left_by (erase_ended (continued_of image input l.store l.output l.result n))
unfolding after_continue continue_result continued_store continued_output result_by store_by output_by numbers_of choose
continue_left image input l n none = rw (eq-eqb _ 0 none)

-- ---- in two goes

-- a sound state that the image has room for, with its counts within their lists and its mark within the store: a run
-- can begin here
record Starts (g : Program) (input : List ℤ) (mark : ℕ) (s : State Cell) : Type 0 where
  sound : Sound g s
  least : first_top g ≤ length s.cells
  read : s.at.read ≤ length input
  written : s.at.written ≤ length s.output
  top : s.at.top ≤ mark
  marked : mark ≤ length s.cells

module _ (image : List ℕ) (bytes : Bytes image) (accepted : check_of image ≡ Ok tt) (input : List ℤ) where
  abbrev g : Program
  g = program_of image

  abbrev ok : AcceptedTables g.types g.fields g.variables g.procedures g.nodes g.statements
  ok = program_accepted image accepted

  abbrev nodes : Bytes g.nodes
  nodes = program_bytes image bytes

  fresh_starts : (store output : List ℤ) → length store ≤ 65536 → first_top g ≤ length store
      → Starts g input (first_top g) (fresh tagged g store output)
  unfolding fresh
  fresh_starts store output most least = record {
    sound = fresh_sound g ok store output most least;
    least = rw (fresh_length g ok store least) least;
    read = omega arith;
    written = omega arith;
    top = omega arith;
    marked = rw (fresh_length g ok store least) least;
  }

  resumed_starts : (store output : List ℤ) (r : RunResult) (n : ℕ) → first_top g ≤ length store
      → Continuable g input store output r n → Starts g input r.mark (resumed g r.at store output)
  unfolding resumed
  resumed_starts store output r n least c = record {
    sound = c.sound;
    least = rw (resumed_cells g r.at store output) least;
    read = c.read;
    written = c.written;
    top = c.mark_top;
    marked = rw (resumed_cells g r.at store output) c.mark_store;
  }

  module _ (mark : ℕ) (s : State Cell) (starts : Starts g input mark s) (n k m : ℕ)
      (used : (run_from tagged g input n k mark s).outcome ≡ 0) (steps : k + (n + m) ≤ 4294967295) where
    abbrev left : Left
    left = left_by (erase_ended (run_from tagged g input n k mark s))

    as_many : length left.store ≡ length s.cells
    as_many =
        length-map (run_from tagged g input n k mark s).state.cells tagged.number
        ∙ (run_ok g ok nodes input n k mark s starts.sound).room

    may_go_on : Continuable g input left.store left.output left.result m
    unfolding numbers_of
    may_go_on =
        let kept = run_kept tagged g input n k mark s in
        let goes_on = run_ok g ok nodes input n k mark s starts.sound in
        let no_trap = kept.no_trap (λ two. absurd (omega arith)) in
        let places = kept.output.places in
        let told = sound_told g ok _ (goes_on.sound used) in
        record {
          refusal = refl;
          fault = refl;
          outcome = used;
          trap = no_trap;
          halt = kept.halt (λ ten. absurd (omega arith));
          sound = yes_sound g ok left.result.at left.store left.output told;
          read = kept.output.inputs starts.read;
          written = rw places (kept.output.outputs starts.written);
          steps = omega (arith, steps_used g input n k mark s used);
          mark_top = goes_on.top starts.top;
          mark_store = rw as_many (goes_on.marked starts.marked);
        }

    -- a run that used up its steps is not refused a continuation
    left_passes : refusal_on image input left m ≡ 0
    left_passes =
        let cells = as_many in
        let most = starts.sound.lent in
        let least = starts.least in
        none_continue image input left.store left.output left.result m
        (none_refusal image left.store accepted (omega arith) (omega arith))
        (yes_passes g ok input left.store left.output left.result m may_go_on)

    -- which adds its steps
    left_adds : after_continue image input left m ≡ left_by (erase_ended (run_from tagged g input (n + m) k mark s))
    unfolding continued_of numbers_of
    left_adds =
        continue_left image input left m left_passes
        ∙ ap left_by (continue_adds g ok nodes input n m k mark s starts.sound used)

-- ---- after a run

module _ (image : List ℕ) (bytes : Bytes image) (input store output : List ℤ) (n m : ℕ)
    (none : refusal image store ≡ 0) (used : (result_of image input store output n).outcome ≡ 0)
    (lent : n + m ≤ 4294967295) where
  abbrev accepted : check_of image ≡ Ok tt
  accepted = (refusal_none image store none).0

  abbrev first : State Cell
  first = fresh tagged (program_of image) store output

  first_starts : Starts (program_of image) input (first_top (program_of image)) first
  first_starts =
      let (accepted, most, least) = refusal_none image store none in
      fresh_starts image bytes accepted input store output most least

  first_used : (run_from tagged (program_of image) input n 0 (first_top (program_of image)) first).outcome ≡ 0
  unfolding ran_of numbers_of after_run
  first_used = sym (ap (λ (l : Left). l.result.outcome) (run_left image input store output n none)) ∙ used

  first_lent : 0 + (n + m) ≤ 4294967295
  first_lent = omega arith

  passes_run : refusal_on image input (after_run image input store output n) m ≡ 0
  unfolding ran_of
  passes_run =
      ap (λ (l : Left). refusal_on image input l m) (run_left image input store output n none)
      ∙ left_passes image bytes accepted input _ first first_starts n 0 m first_used first_lent

  adds_run : after_continue image input (after_run image input store output n) m
      ≡ after_run image input store output (n + m)
  unfolding ran_of
  adds_run =
      ap (λ (l : Left). after_continue image input l m) (run_left image input store output n none)
      ∙ left_adds image bytes accepted input _ first first_starts n 0 m first_used first_lent
      ∙ sym (run_left image input store output (n + m) none)

-- ---- after a continuation

module _ (image : List ℕ) (bytes : Bytes image) (input : List ℤ) (l : Left) (n m : ℕ)
    (none : refusal_on image input l n ≡ 0) (used : (after_continue image input l n).result.outcome ≡ 0)
    (lent : l.result.steps + (n + m) ≤ 4294967295) where
  abbrev asked : (refusal image l.store ≡ 0)
      × (question14 (program_of image) input l.store l.output l.result n ≡ true)
  asked = continue_none image input l.store l.output l.result n none

  abbrev agreed : check_of image ≡ Ok tt
  agreed = (refusal_none image l.store asked.0).0

  abbrev again : State Cell
  again = resumed (program_of image) l.result.at l.store l.output

  may : Continuable (program_of image) input l.store l.output l.result n
  may = (question14_exact image agreed input l.store l.output l.result n).0 asked.1

  again_starts : Starts (program_of image) input l.result.mark again
  again_starts =
      resumed_starts image bytes agreed input l.store l.output l.result n
      (refusal_none image l.store asked.0).2 may

  again_used : (run_from tagged (program_of image) input n l.result.steps l.result.mark again).outcome ≡ 0
  unfolding continued_of numbers_of
  again_used = sym (ap (λ (l : Left). l.result.outcome) (continue_left image input l n none)) ∙ used

  -- of n + m steps it would not be refused, too
  longer_none : refusal_on image input l (n + m) ≡ 0
  longer_none =
      none_continue image input _ _ _ (n + m) asked.0
      ((question14_exact image agreed input l.store l.output l.result (n + m)).1 (record {
        refusal = may.refusal;
        fault = may.fault;
        outcome = may.outcome;
        trap = may.trap;
        halt = may.halt;
        sound = may.sound;
        read = may.read;
        written = may.written;
        steps = lent;
        mark_top = may.mark_top;
        mark_store = may.mark_store;
      }))

  passes_again : refusal_on image input (after_continue image input l n) m ≡ 0
  unfolding continued_of
  passes_again =
      ap (λ (l : Left). refusal_on image input l m) (continue_left image input l n none)
      ∙ left_passes image bytes agreed input _ again again_starts n l.result.steps m again_used lent

  adds_again : after_continue image input (after_continue image input l n) m ≡ after_continue image input l (n + m)
  unfolding continued_of
  adds_again =
      ap (λ (l : Left). after_continue image input l m) (continue_left image input l n none)
      ∙ left_adds image bytes agreed input _ again again_starts n l.result.steps m again_used lent
      ∙ sym (continue_left image input l (n + m) longer_none)

-- ---- the claims

-- after every run that is not refused and ends with outcome 0, its own result, store and lists pass
pub run_passes : (image : List ℕ) → Bytes image → (input store output : List ℤ) (n m : ℕ) → refusal image store ≡ 0
    → (result_of image input store output n).outcome ≡ 0 → n + m ≤ 4294967295
    → refusal_on image input (after_run image input store output n) m ≡ 0
run_passes = passes_run

-- and after every such continuation
pub continue_passes : (image : List ℕ) → Bytes image → (input : List ℤ) (l : Left) (n m : ℕ)
    → refusal_on image input l n ≡ 0 → (after_continue image input l n).result.outcome ≡ 0
    → l.result.steps + (n + m) ≤ 4294967295
    → refusal_on image input (after_continue image input l n) m ≡ 0
continue_passes = passes_again

-- "Where a run of n steps ends with outcome 0, continuing for m gives what one run of n + m gives, with one input list
-- and one output, n + m being at most 4294967295."
pub continue_is_run : (image : List ℕ) → Bytes image → (input store output : List ℤ) (n m : ℕ)
    → refusal image store ≡ 0 → (result_of image input store output n).outcome ≡ 0 → n + m ≤ 4294967295
    → after_continue image input (after_run image input store output n) m ≡ after_run image input store output (n + m)
continue_is_run = adds_run

-- and where a continuation of n steps does, continuing it for m gives what one continuation of n + m gives
pub continue_again : (image : List ℕ) → Bytes image → (input : List ℤ) (l : Left) (n m : ℕ)
    → refusal_on image input l n ≡ 0 → (after_continue image input l n).result.outcome ≡ 0
    → l.result.steps + (n + m) ≤ 4294967295
    → after_continue image input (after_continue image input l n) m ≡ after_continue image input l (n + m)
continue_again = adds_again
