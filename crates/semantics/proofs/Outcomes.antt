-- What demand 3 says of a run: its outcome has a number of the paper's, and the bare machine does the same. And what
-- every run keeps, whatever the image: the numbers of traps and HALT, and output places that were not written.
use Rattle.std.specs.Prelude.{Ok, Err}
use Rattle.checker.specs.Check.{CheckAnswer, question_of, check_of, refusal_of, row_of}
use mathlib.Core.Path.{◌≡◌, refl, sym, ◌∙◌}
use mathlib.Core.Bool.{Bool, true, false}
use mathlib.Core.List.{List}
use mathlib.Core.Logic.{⊎_elim}
use Prim.Native.Nat.{ℕ, zero, suc, ◌+◌, ◌≤◌, ◌<◌}
use native.Mathlib.Omega.{arith}
use borrow.Author.Tests.{leb-true, lt-leb, le-leb, eqb-true, eq-eqb}
use lib.Dec.{leb, eqb}
use lib.IntN.{ℤ, pos}
use lib.ListN.{length, get_or}
use Rattle.prelude.specs.Choice.{choose}
use Rattle.prelude.proofs.Choice.{choose_yes, choose_no, choose_cases, choose_has, clash}
use Rattle.image.specs.Rows.{Bytes}
use Rattle.values.specs.declared.Trap.{Trap}
use Rattle.values.specs.Values.{trap_number}
use Rattle.values.proofs.Ranges.{trap_range}
use Rattle.checker.proofs.Chain.{refused_first}
use Rattle.checker.proofs.Accepted.{AcceptedTables}
use Rattle.semantics.specs.Memory.{Memory, Cell, tagged, bare}
use Rattle.semantics.specs.Layout.{Program}
use Rattle.semantics.specs.Stepping.{State, Next, Next.goes, Next.finished, Next.trapped, Next.stuck, step_of}
use Rattle.semantics.specs.Running.{program_of, first_top, fresh, raised, Ended, onward, run_from}
use Rattle.semantics.specs.Running.{refusal, ran_of, numbers_of, refused_with, result_by, output_by, result_of}
use Rattle.semantics.specs.Running.{output_after}
use Rattle.semantics.specs.Sound.{Sound}
use Rattle.semantics.specs.After.{Machine, Machine.running, Machine.over, Machine.failed, moved, after}
use Rattle.semantics.proofs.Simulation.{erase, erase_ended, run_follows, fresh_erased}
use Rattle.semantics.proofs.Giving.{result_has}
use Rattle.semantics.specs.Demand3.{Unchanged, NextOk, NextOk.ok_goes, NextOk.ok_finished, NextOk.ok_trapped}
use Rattle.semantics.proofs.Beginning.{fresh_sound, fresh_length}
use Rattle.semantics.proofs.AnyStep.{step_ok}
use Rattle.semantics.proofs.Marks.{asked_lent}
use Rattle.semantics.proofs.Reporting.{Keeps, Reports, Reports.reports_goes, Reports.reports_trapped}
use Rattle.semantics.proofs.Reporting.{Reports.reports_stuck, keeps_all, keeps_on, step_reports, goes_raised}
use Rattle.semantics.specs.Demand3.{SoundAfter, SoundAfter.sound_running, SoundAfter.sound_over}
use Rattle.semantics.specs.Demand3.{SoundAfter.sound_failed}
use Rattle.semantics.proofs.Demand3.{program_accepted, program_bytes, sound_after}

-- ---- what a run reports

-- a run from s that trapped: the state before its last step, which is the machine's after the other steps, and which
-- the trap left as it was
pub record TrappedIn (g : Program) (input : List ℤ) (s : State Cell) (e : Ended Cell) : Type 0 where
  pub before : State Cell
  pub others : ℕ
  pub count : e.steps ≡ suc others
  pub reached : after tagged g input others s ≡ running before
  pub sound : Sound g before
  pub unchanged : Unchanged before e.state

-- a run of n steps from s, where k were done before: its steps are used up, or it ended with a step from a state that
-- the machine had reached; whatever its mark is
pub data Reported (g : Program) (input : List ℤ) (n k : ℕ) (s : State Cell) : Ended Cell → Type 0 where
  used_up : {u : State Cell} {c mark : ℕ} → c ≡ k + n → after tagged g input n s ≡ running u
      → Reported g input n k s (record { outcome = 0; trap = 0; halt = pos 0; steps = c; mark = mark; state = u })
  finishes : {u : State Cell} {c mark : ℕ} (d : ℕ) → d < n → c ≡ k + suc d → after tagged g input d s ≡ running u
      → step_of tagged g input u ≡ finished
      → Reported g input n k s (record { outcome = 1; trap = 0; halt = pos 0; steps = c; mark = mark; state = u })
  traps : {t : Trap} {z : ℤ} {u v : State Cell} {c mark : ℕ} (d : ℕ) → d < n → c ≡ k + suc d
      → after tagged g input d s ≡ running u → step_of tagged g input u ≡ trapped t z v
      → Reported g input n k s (record {
        outcome = 2;
        trap = trap_number t;
        halt = z;
        steps = c;
        mark = mark;
        state = v;
      })
  sticks : {u v : State Cell} {c mark : ℕ} (d : ℕ) → d < n → c ≡ k + suc d → after tagged g input d s ≡ running u
      → step_of tagged g input u ≡ stuck v
      → Reported g input n k s (record { outcome = 3; trap = 0; halt = pos 0; steps = c; mark = mark; state = v })

module _ (g : Program) (input : List ℤ) where
  -- one step more
  after_goes : (n : ℕ) (s u : State Cell) → step_of tagged g input s ≡ goes u
      → after tagged g input (suc n) s ≡ after tagged g input n u
  unfolding after moved
  after_goes n s u e = rw e

  reported_later : (n k : ℕ) (s u : State Cell) {e : Ended Cell} → step_of tagged g input s ≡ goes u
      → Reported g input n (k + 1) u e → Reported g input (suc n) k s e
  reported_later n k s u step (used_up {c = c} count r) = used_up {c = c} (omega arith) (after_goes n s u step ∙ r)
  reported_later n k s u step (finishes {c = c} d low count r x) =
      finishes {c = c} (suc d) (omega arith) (omega arith) (after_goes d s u step ∙ r) x
  reported_later n k s u step (traps {c = c} d low count r x) =
      traps {c = c} (suc d) (omega arith) (omega arith) (after_goes d s u step ∙ r) x
  reported_later n k s u step (sticks {c = c} d low count r x) =
      sticks {c = c} (suc d) (omega arith) (omega arith) (after_goes d s u step ∙ r) x

  -- the run is the machine's
  pub reported : (n k mark : ℕ) (s : State Cell) → Reported g input n k s (run_from tagged g input n k mark s)
  unfolding run_from onward after
  reported zero k mark s = used_up {c = k} (omega arith) refl
  reported (suc n) k mark s = go (step_of tagged g input s) refl (raised g s mark) (reported n (k + 1))
    where
      go : (x : Next Cell) → step_of tagged g input s ≡ x → (mark : ℕ)
          → ((mark : ℕ) (u : State Cell) → Reported g input n (k + 1) u (run_from tagged g input n (k + 1) mark u))
          → Reported g input (suc n) k s (onward x s (k + 1) mark (λ u. run_from tagged g input n (k + 1) mark u))
      go (goes u) e mark later = reported_later n k s u e (later mark u)
      go finished e mark later = finishes {c = k + 1} 0 (omega arith) (omega arith) refl e
      go (trapped t z u) e mark later = traps {c = k + 1} 0 (omega arith) (omega arith) refl e
      go (stuck u) e mark later = sticks {c = k + 1} 0 (omega arith) (omega arith) refl e

-- the machine finished or trapped
pub data Last : Machine Cell → Type 0 where
  last_over : {s : State Cell} → Last (over s)
  last_failed : {t : Trap} {z : ℤ} {s u : State Cell} → Last (failed t z s u)

no_last : {s : State Cell} → Last (running s) → ⊥
no_last h = elim h [ ]

-- "A step that finishes or traps .. is the last.": k more steps change nothing
pub last_stays : (g : Program) (input : List ℤ) (n k : ℕ) (s : State Cell) → Last (after tagged g input n s)
    → after tagged g input (n + k) s ≡ after tagged g input n s
unfolding after moved
last_stays g input zero k s last = absurd (no_last last)
last_stays g input (suc n) k s last =
    let one : suc n + k ≡ suc (n + k) = omega arith in
    rw one (go (step_of tagged g input s) last (λ u h. last_stays g input n k u h))
  where
    go : (x : Next Cell) → Last (moved x s (after tagged g input n))
        → ((u : State Cell) → Last (after tagged g input n u)
        → after tagged g input (n + k) u ≡ after tagged g input n u)
        → moved x s (after tagged g input (n + k)) ≡ moved x s (after tagged g input n)
    go (goes u) h later = later u h
    go finished h later = refl
    go (trapped t z u) h later = refl
    go (stuck u) h later = refl

-- a run that used up its steps took them all
pub steps_used : (g : Program) (input : List ℤ) (n k mark : ℕ) (s : State Cell)
    → (run_from tagged g input n k mark s).outcome ≡ 0 → (run_from tagged g input n k mark s).steps ≡ k + n
steps_used g input n k mark s = go (reported g input n k mark s)
  where
    go : {e : Ended Cell} → Reported g input n k s e → e.outcome ≡ 0 → e.steps ≡ k + n
    go (used_up c r) used = c
    go (finishes d low c r x) used = absurd (omega arith)
    go (traps d low c r x) used = absurd (omega arith)
    go (sticks d low c r x) used = absurd (omega arith)

-- a run takes no more steps than it is lent
pub steps_lent : (image : List ℕ) (input store output : List ℤ) (steps : ℕ)
    → (ran_of image input store output steps).steps ≤ steps
unfolding ran_of
steps_lent image input store output steps =
    go (reported (program_of image) input steps 0 _ (fresh tagged (program_of image) store output))
  where
    go : {s : State Cell} {e : Ended Cell} → Reported (program_of image) input steps 0 s e → e.steps ≤ steps
    go (used_up c r) = omega arith
    go (finishes d low c r x) = omega arith
    go (traps d low c r x) = omega arith
    go (sticks d low c r x) = omega arith

-- ---- who is not refused

checked : (image : List ℕ) → refusal_of (check_of image) ≡ 0 → check_of image ≡ Ok tt
unfolding refusal_of check_of
checked image none = go (check_of image) refl none
  where
    go : (x : CheckAnswer) → check_of image ≡ x → refusal_of x ≡ 0 → check_of image ≡ Ok tt
    go (Ok _) e h = e
    go (Err x) e h = let low = (refused_first (question_of image) 11 1 x.question x.row e).least in absurd (omega arith)

-- a run without refusal: the check accepts, and questions 12 and 13 are answered by yes
pub refusal_none : (image : List ℕ) (store : List ℤ) → refusal image store ≡ 0
    → (check_of image ≡ Ok tt) × (length store ≤ 65536) × (first_top (program_of image) ≤ length store)
unfolding refusal
refusal_none image store e =
    ⊎_elim
    (λ a. ⊎_elim
    (λ b. ⊎_elim
    (λ c. (checked image (eqb-true _ _ a.0), leb-true _ _ b.0, leb-true _ _ c.0))
    (λ c. absurd (omega (arith, c.1)))
    (choose_cases (leb (first_top (program_of image)) (length store)) b.1))
    (λ b. absurd (omega (arith, b.1)))
    (choose_cases (leb (length store) 65536) a.1))
    (λ a. clash (sym (eq-eqb _ 0 a.1) ∙ a.0))
    (choose_cases (eqb (refusal_of (check_of image)) 0) e)

-- and back
pub none_refusal : (image : List ℕ) (store : List ℤ) → check_of image ≡ Ok tt → length store ≤ 65536
    → first_top (program_of image) ≤ length store → refusal image store ≡ 0
unfolding refusal refusal_of
none_refusal image store accepted most least =
    let none : refusal_of (check_of image) ≡ 0 = rw accepted in
    choose_yes _ _ _ (eq-eqb _ 0 none) ∙ choose_yes _ _ _ (le-leb _ 65536 most) ∙ choose_yes _ _ _ (le-leb _ _ least)

-- an accepted image with too few cells
pub refusal_13 : (image : List ℕ) (store : List ℤ) → check_of image ≡ Ok tt → length store ≤ 65536
    → length store < first_top (program_of image) → refusal image store ≡ 13
unfolding refusal refusal_of
refusal_13 image store accepted most few =
    let none : refusal_of (check_of image) ≡ 0 = rw accepted in
    choose_yes _ _ _ (eq-eqb _ 0 none) ∙ choose_yes _ _ _ (le-leb _ 65536 most) ∙ choose_no _ _ _ (lt-leb _ _ few)

-- ---- what follows from demand 3

-- a run from s: its outcome is one of the paper's, so it is never stuck; a state with its steps used up is sound; there
-- are as many cells as before; and its mark, where it was not below top and within the store, is so still
pub record RunOk (g : Program) (mark : ℕ) (s : State Cell) (e : Ended Cell) : Type 0 where
  pub outcome : e.outcome ≤ 2
  pub sound : e.outcome ≡ 0 → Sound g e.state
  pub room : length e.state.cells ≡ length s.cells
  pub top : s.at.top ≤ mark → e.state.at.top ≤ e.mark
  pub marked : mark ≤ length s.cells → e.mark ≤ length s.cells

-- the mark behind a step: not below the one before it, nor above that and the store
record Raised (g : Program) (mark : ℕ) (s : State Cell) : Type 0 where
  kept : mark ≤ raised g s mark
  lent : mark ≤ length s.cells → raised g s mark ≤ length s.cells

mark_raised : (g : Program) (mark : ℕ) (s : State Cell) → Raised g mark s
unfolding raised
mark_raised g mark s =
    record { kept = omega arith; lent = λ low. omega (arith, asked_lent g s.at (length s.cells)) }

module _ (g : Program)
    (ok : AcceptedTables g.types g.fields g.variables g.procedures g.nodes g.statements)
    (bytes : Bytes g.nodes) (input : List ℤ) where
  -- from every sound state
  pub run_ok : (n k mark : ℕ) (s : State Cell) → Sound g s → RunOk g mark s (run_from tagged g input n k mark s)
  unfolding run_from onward
  run_ok zero k mark s sound = record {
    outcome = omega arith;
    sound = λ used. sound;
    room = refl;
    top = λ low. low;
    marked = λ low. low;
  }
  run_ok (suc n) k mark s sound =
      go (step_of tagged g input s) refl (step_ok g ok bytes s sound input) (raised g s mark) refl (mark_raised g mark s)
      (run_ok n (k + 1))
    where
      go : (x : Next Cell) → step_of tagged g input s ≡ x → NextOk g s x → (new : ℕ) → raised g s mark ≡ new
          → Raised g mark s
          → ((mark : ℕ) (u : State Cell) → Sound g u → RunOk g mark u (run_from tagged g input n (k + 1) mark u))
          → RunOk g mark s (onward x s (k + 1) new (λ u. run_from tagged g input n (k + 1) new u))
      go x step (ok_goes {s' = u} next cells output) new e up later =
          let rest = later new u next in
          record {
            outcome = rest.outcome;
            sound = rest.sound;
            room = rest.room ∙ cells;
            top = λ low. rest.top (omega (arith, goes_raised input tagged g mark s u low step));
            marked = λ low. rw cells at (rest.marked (omega (arith, up.lent low)));
          }
      go x step ok_finished new e up later = record {
        outcome = omega arith;
        sound = λ used. absurd (omega arith);
        room = refl;
        top = λ low. omega (arith, up.kept);
        marked = λ low. omega (arith, up.lent low);
      }
      go x step (ok_trapped same) new e up later = record {
        outcome = omega arith;
        sound = λ used. absurd (omega arith);
        room = same.cells;
        top = λ low. rw same.registers (omega (arith, up.kept));
        marked = λ low. omega (arith, up.lent low);
      }

  -- the bare machine, on the numbers alone, does the same
  pub run_bare : (n k mark : ℕ) (s : State Cell) → Sound g s
      → run_from bare g input n k mark (erase s) ≡ erase_ended (run_from tagged g input n k mark s)
  run_bare n k mark s sound =
      let few = (run_ok n k mark s sound).outcome in
      run_follows g input n k mark s (λ three. absurd (omega arith))

module _ (image : List ℕ) (bytes : Bytes image) (accepted : check_of image ≡ Ok tt) (input store output : List ℤ)
    (most : length store ≤ 65536) (least : first_top (program_of image) ≤ length store) (steps : ℕ) where
  abbrev first : State Cell
  first = fresh tagged (program_of image) store output

  ran : Reported (program_of image) input steps 0 first (ran_of image input store output steps)
  unfolding ran_of
  ran = reported (program_of image) input steps 0 _ first

  -- a state that the machine reached is sound, and so is its next step
  running_sound : (d : ℕ) (u : State Cell) → after tagged (program_of image) input d first ≡ running u
      → Sound (program_of image) u × NextOk (program_of image) u (step_of tagged (program_of image) input u)
  running_sound d u r =
      go (after tagged (program_of image) input d first) r
      (sound_after image bytes accepted input store output most least d)
    where
      go : (x : Machine Cell) → x ≡ running u → SoundAfter (program_of image) input x
          → Sound (program_of image) u × NextOk (program_of image) u (step_of tagged (program_of image) input u)
      go x e (sound_running {s = s} sound next) = let same : s ≡ u = cc in (rw same at sound, rw same at next)
      go x e (sound_over sound step) = let z : ◌≡◌ {A = ℕ} 0 1 = cc in absurd (omega arith)
      go x e (sound_failed sound step same left) = let z : ◌≡◌ {A = ℕ} 0 1 = cc in absurd (omega arith)

  ran_ok : RunOk (program_of image) (first_top (program_of image)) first (ran_of image input store output steps)
  unfolding ran_of
  ran_ok =
      let ok = program_accepted image accepted in
      run_ok (program_of image) ok (program_bytes image bytes) input steps 0 _ first
      (fresh_sound (program_of image) ok store output most least)

  pub ran_outcome : (ran_of image input store output steps).outcome ≤ 2
  ran_outcome = ran_ok.outcome

  -- a run is never stuck
  pub never_stuck : (ran_of image input store output steps).outcome ≡ 3 → ⊥
  never_stuck three = absurd (omega (arith, ran_outcome))

  -- "After any trap nothing below top, no output and no count but steps has changed, and row, base and top stay."
  pub trap_unchanged : (ran_of image input store output steps).outcome ≡ 2
      → TrappedIn (program_of image) input first (ran_of image input store output steps)
  trap_unchanged = go ran
    where
      left : {u v : State Cell} {t : Trap} {z : ℤ} → NextOk (program_of image) u (trapped t z v) → Unchanged u v
      left (ok_trapped same) = same

      go : {e : Ended Cell} → Reported (program_of image) input steps 0 first e → e.outcome ≡ 2
          → TrappedIn (program_of image) input first e
      go (used_up c r) two = absurd (omega arith)
      go (finishes d low c r x) two = absurd (omega arith)
      go (traps {u = u} d low c r x) two =
          let (sound, next) = running_sound d u r in
          record {
            before = u;
            others = d;
            count = omega arith;
            reached = r;
            sound = sound;
            unchanged = left (rw x at next);
          }
      go (sticks d low c r x) two = absurd (omega arith)

  -- the bare machine, on the numbers alone, does the same
  pub ran_bare : run_from bare (program_of image) input steps 0 (first_top (program_of image))
      (fresh bare (program_of image) store output)
      ≡ erase_ended (ran_of image input store output steps)
  unfolding ran_of
  ran_bare =
      rw (fresh_erased (program_of image) store output)
      (run_follows (program_of image) input steps 0 _ first never_stuck)

  -- its mark lies within the store
  pub ran_marked : (ran_of image input store output steps).mark ≤ length store
  unfolding fresh
  ran_marked =
      let cells = fresh_length (program_of image) (program_accepted image accepted) store least in
      rw cells at (ran_ok.marked (rw cells least))

  -- a run leaves as many cells as it was lent
  pub ran_cells : length (ran_of image input store output steps).state.cells ≡ length store
  unfolding fresh
  ran_cells = ran_ok.room ∙ fresh_length (program_of image) (program_accepted image accepted) store least

-- "outcome (0 steps used up, 1 finished, 2 trapped)": whatever the image and the store
pub result_outcome : (image : List ℕ) → Bytes image → (input store output : List ℤ) (steps : ℕ)
    → (result_of image input store output steps).outcome ≤ 2
unfolding result_of numbers_of refused_with
result_outcome image bytes input store output steps =
    result_has _ _ _ (λ r. r.outcome ≤ 2)
    (λ none. let (accepted, most, least) = refusal_none image store none in
    ran_outcome image bytes accepted input store output most least steps)
    (omega arith)

-- ---- what every run keeps

-- "trap is 0 unless trapped, HALT number 0 unless trap 10; .. output places from written on keep their numbers": a run
-- from s
pub record Kept {X : Type 0} (input : List ℤ) (s : State X) (e : Ended X) : Type 0 where
  pub no_trap : (e.outcome ≡ 2 → ⊥) → e.trap ≡ 0
  pub named_trap : e.outcome ≡ 2 → (1 ≤ e.trap) × (e.trap ≤ 10)
  pub halt : (e.trap ≡ 10 → ⊥) → e.halt ≡ pos 0
  pub output : Keeps input s e.state

module _ {X : Type 0} (m : Memory X) (g : Program) (input : List ℤ) where
  onward_kept : {s : State X} {asked : ℕ} (x : Next X) (k mark : ℕ) (next : State X → Ended X)
      → Reports input asked s x → ((u : State X) → Kept input u (next u)) → Kept input s (onward x s k mark next)
  unfolding onward
  onward_kept (goes u) k mark next (reports_goes kept top) more = record {
    no_trap = (more u).no_trap;
    named_trap = (more u).named_trap;
    halt = (more u).halt;
    output = keeps_on input kept (more u).output;
  }
  onward_kept {s} finished k mark next h more = record {
    no_trap = λ h. refl;
    named_trap = λ h. absurd (omega arith);
    halt = λ h. refl;
    output = keeps_all input s;
  }
  onward_kept (trapped t z u) k mark next (reports_trapped kept numbered) more = record {
    no_trap = λ h. absurd (h refl);
    named_trap = λ h. trap_range t;
    halt = numbered.halt;
    output = kept;
  }
  onward_kept (stuck u) k mark next (reports_stuck kept) more = record {
    no_trap = λ h. refl;
    named_trap = λ h. absurd (omega arith);
    halt = λ h. refl;
    output = kept;
  }

  pub run_kept : (n k mark : ℕ) (s : State X) → Kept input s (run_from m g input n k mark s)
  unfolding run_from
  run_kept zero k mark s = record {
    no_trap = λ h. refl;
    named_trap = λ h. absurd (omega arith);
    halt = λ h. refl;
    output = keeps_all input s;
  }
  run_kept (suc n) k mark s =
      onward_kept (step_of m g input s) (k + 1) _ _ (step_reports input m g s) (λ u. run_kept n (k + 1) _ u)

module _ (image : List ℕ) (input store output : List ℤ) (steps : ℕ) where
  ran_kept : Kept input (fresh tagged (program_of image) store output) (ran_of image input store output steps)
  unfolding ran_of
  ran_kept = run_kept tagged (program_of image) input steps 0 _ (fresh tagged (program_of image) store output)

  -- "trap is 0 unless trapped"
  pub result_no_trap : ((result_of image input store output steps).outcome ≡ 2 → ⊥)
      → (result_of image input store output steps).trap ≡ 0
  unfolding result_of numbers_of refused_with
  result_no_trap =
      result_has _ _ _ (λ r. (r.outcome ≡ 2 → ⊥) → r.trap ≡ 0) (λ none. ran_kept.no_trap) (λ h. refl)

  -- and one of the ten where it trapped
  pub result_named_trap : (result_of image input store output steps).outcome ≡ 2
      → (1 ≤ (result_of image input store output steps).trap) × ((result_of image input store output steps).trap ≤ 10)
  unfolding result_of numbers_of refused_with
  result_named_trap =
      result_has _ _ _ (λ r. r.outcome ≡ 2 → (1 ≤ r.trap) × (r.trap ≤ 10)) (λ none. ran_kept.named_trap)
      (λ h. absurd (omega arith))

  -- "HALT number 0 unless trap 10"
  pub result_halt : ((result_of image input store output steps).trap ≡ 10 → ⊥)
      → (result_of image input store output steps).halt ≡ pos 0
  unfolding result_of numbers_of refused_with
  result_halt =
      result_has _ _ _ (λ r. (r.trap ≡ 10 → ⊥) → r.halt ≡ pos 0) (λ none. ran_kept.halt) (λ h. refl)

  -- "output places from written on keep their numbers"; there are as many as were lent
  pub output_kept : (i : ℕ) → (result_of image input store output steps).at.written ≤ i
      → get_or (output_after image input store output steps) i (pos 0) ≡ get_or output i (pos 0)
  unfolding result_of output_after result_by output_by numbers_of fresh choose
  output_kept i = go (eqb (refusal image store) 0)
    where
      go : (b : Bool) → (choose b (numbers_of (ran_of image input store output steps))
          (refused_with (refusal image store) (row_of (check_of image)))).at.written ≤ i
          → get_or (choose b (ran_of image input store output steps).state.output output) i (pos 0)
          ≡ get_or output i (pos 0)
      go true h = ran_kept.output.place i h
      go false h = refl

  pub output_places : length (output_after image input store output steps) ≡ length output
  unfolding output_after output_by fresh
  output_places =
      choose_has (λ (l : List ℤ). length l ≡ length output) _ (λ e. ran_kept.output.places) (λ e. refl)
