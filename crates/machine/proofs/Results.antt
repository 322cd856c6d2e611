-- The fresh state in the lent store, and what the code of a run and of a continuation gives back.
use Rattle.std.specs.Prelude.{Ok, Err}
use Rattle.checker.specs.Check.{refused_at, CheckAnswer, question_of, check_of, refusal_of, row_of}
use mathlib.Core.Path.{◌≡◌, sym, ◌∙◌, ap}
use mathlib.Core.Bool.{Bool, true, false}
use mathlib.Core.List.{List, ◌∷◌, ◌++◌, map-id}
use Prim.Native.Nat.{ℕ, zero, suc, ◌+◌, ◌≤◌}
use native.Mathlib.Omega.{arith}
use borrow.Author.Tests.{eq-eqb, ne_eqb}
use lib.IntN.{ℤ, pos}
use lib.ListN.{length, drop, replicate, length-replicate}
use Rattle.prelude.specs.Choice.{choose}
use Rattle.prelude.proofs.Choice.{choose_yes, choose_no}
use Rattle.checker.proofs.Chain.{refused_first}
use Rattle.image.specs.Rows.{Bytes, row_at}
use Rattle.frames.specs.Variables.{globals_of}
use Rattle.frames.specs.Procedures.{first_variable, claimed_by}
use Rattle.places.specs.Places.{room_from, global_cells, frame_size}
use Rattle.semantics.specs.declared.RunResult.{RunResult}
use Rattle.semantics.specs.Memory.{Cell, bare, overwrite}
use Rattle.semantics.specs.Layout.{Program, kinds_from}
use Rattle.semantics.specs.Running.{program_of, global_room, first_top, fresh_cells, fresh, Ended, run_from, refusal, ran_of}
use Rattle.semantics.specs.Running.{numbers_of, refused_with}
use Rattle.semantics.proofs.Agreeing.{blank_zeros}
use Rattle.semantics.proofs.Objects.{kinds_room}
use Rattle.semantics.proofs.Giving.{GivesBack, gives_refused, gives_ended}
use Rattle.semantics.proofs.Outcomes.{refusal_none, ran_bare}
use Rattle.calling.specs.Showing.{state_of, Stands}
use Rattle.asking.specs.Continuing.{question14}
use Rattle.asking.proofs.Continuing.{question14_exact}
use Rattle.asking.proofs.Giving.{Continues, continues_14, continues_run}
use Rattle.machine.specs.Stopping.{Stops, store_question}

-- ---- the fresh state

zeros_more : (m n : ℕ) (rest : List ℤ)
    → replicate m (pos 0) ++ (replicate n (pos 0) ++ rest) ≡ replicate (m + n) (pos 0) ++ rest
zeros_more zero n rest = let all : 0 + n ≡ n = omega arith in rw all
zeros_more (suc m) n rest =
    let more : suc m + n ≡ suc (m + n) = omega arith in
    rw more (ap (λ (l : List ℤ). pos 0 ∷ l) (zeros_more m n rest))

fresh_cells_lem : (g : Program) (store : List ℤ)
    → fresh_cells bare g store ≡ overwrite store 0 (replicate (first_top g) (pos 0))
unfolding fresh_cells bare overwrite first_top global_room global_cells frame_size
fresh_cells_lem g store =
    let first : ℕ = first_variable g.variables g.procedures 0 in
    let own : ℕ = claimed_by (row_at g.procedures 0) in
    let rest : List ℤ = drop (first_top g) store in
    let none : 0 + first_top g ≡ first_top g = omega arith in
    rw (
      blank_zeros (kinds_from g 0 (globals_of g.variables)),
      kinds_room g (globals_of g.variables) 0,
      blank_zeros (kinds_from g first own),
      kinds_room g own first,
      length-replicate,
      map-id,
      none,
    )
    (ap (λ (l : List ℤ). replicate (global_room g) (pos 0) ++ l)
    (zeros_more 3 (room_from g.types g.fields g.variables first own) rest)
    ∙ zeros_more (global_room g) (3 + room_from g.types g.fields g.variables first own) rest)

-- "Fresh: globals and procedure 0's frame zero, base G, top G + F0, row 0, counts 0."
fresh_is : (g : Program) (store output : List ℤ) {base top : ℕ} {cells : List ℤ} → base ≡ global_room g
    → top ≡ first_top g → cells ≡ overwrite store 0 (replicate top (pos 0))
    → state_of (record { row = 0; base = base; top = top; read = 0; written = 0 }) cells output
    ≡ fresh bare g store output
unfolding fresh
fresh_is g store output base top cells = rw (fresh_cells_lem g store, cells, base, top)

-- from which steps can be taken
pub fresh_stands : (g : Program) (store cells : List ℤ) {base top : ℕ} → base ≡ global_room g → top ≡ first_top g
    → top ≤ length store → length store ≤ 65536 → length cells ≡ length store
    → Stands (record { row = 0; base = base; top = top; read = 0; written = 0 }) cells
unfolding first_top
fresh_stands g store cells base top room few same = record {
  row = omega arith;
  base = omega arith;
  top = omega arith;
  few = omega arith;
}

-- ---- what is asked first

-- a refusal's question has a number
question_some : (image : List ℕ) (q row : ℕ) → check_of image ≡ Err (refused_at q row) → 1 ≤ q
unfolding check_of
question_some image q row e = (refused_first (question_of image) 11 1 q row e).least

-- a refusal of the check is the run's
check_refuses : (image : List ℕ) (store : List ℤ) (q row : ℕ) → check_of image ≡ Err (refused_at q row)
    → (refusal image store ≡ q) × (q ≡ 0 → ⊥) × (row_of (check_of image) ≡ row)
unfolding refusal refusal_of row_of
check_refuses image store q row this =
    let some : q ≡ 0 → ⊥ = λ z. absurd (omega (arith, question_some image q row this)) in
    let number : refusal_of (check_of image) ≡ q = rw this in
    (choose_no _ _ _ (ne_eqb _ 0 (λ z. some (sym number ∙ z))) ∙ number, some, rw this)

-- behind the check, 12 and 13 are asked
pub store_refuses : (image : List ℕ) (store : List ℤ) → check_of image ≡ Ok tt
    → refusal image store ≡ store_question (program_of image) (length store)
unfolding refusal refusal_of store_question
store_refuses image store accepted =
    let none : refusal_of (check_of image) ≡ 0 = rw accepted in
    choose_yes _ _ _ (eq-eqb _ 0 none)

-- a call whose refusal q is the run's, where the run has one
module _ (image : List ℕ) (store : List ℤ) {q : ℕ}
    (first : (asked : ℕ) → refusal image store ≡ asked → (asked ≡ 0 → ⊥) → q ≡ asked) {e : Ended Cell}
    {output : List ℤ} {r : RunResult} where
  -- refused by the check
  pub gives_check : (x : CheckAnswer) (asked row : ℕ) → x ≡ Err (refused_at asked row) → x ≡ check_of image
      → r ≡ refused_with (refusal_of x) (row_of x)
      → GivesBack q (row_of (check_of image)) e store output r store output
  unfolding refusal_of row_of
  gives_check x asked row is same result =
      let (number, some, at) = check_refuses image store asked row (sym same ∙ is) in
      gives_refused (first asked number some) at some (rw is at result)

  -- by question 12 or 13
  pub gives_store : check_of image ≡ Ok tt → (asked : ℕ)
      → asked ≡ store_question (program_of image) (length store) → (asked ≡ 0 → ⊥) → r ≡ refused_with asked 0
      → GivesBack q (row_of (check_of image)) e store output r store output
  unfolding row_of
  gives_store accepted asked is some result =
      gives_refused (first asked (store_refuses image store accepted ∙ sym is) some) (rw accepted) some result

-- ---- a run

-- the tagged machine's, since the code's is the bare one's
pub gives_run : (image : List ℕ) (input store output : List ℤ) (steps : ℕ) → Bytes image → refusal image store ≡ 0
    → {base top : ℕ} {zeroed : List ℤ} → base ≡ global_room (program_of image) → top ≡ first_top (program_of image)
    → zeroed ≡ overwrite store 0 (replicate top (pos 0)) → {r : RunResult} {cells places : List ℤ}
    → Stops (run_from bare (program_of image) input steps 0 top
    (state_of (record { row = 0; base = base; top = top; read = 0; written = 0 }) zeroed output)) r cells places
    → GivesBack (refusal image store) (row_of (check_of image)) (ran_of image input store output steps) store output r
    cells places
gives_run image input store output steps bytes none base top zeroed stops =
    let (accepted, few, room) = refusal_none image store none in
    let ran = rw (fresh_is (program_of image) store output base top zeroed, top) at stops in
    gives_ended none (ran_bare image bytes accepted input store output few room steps) ran.answer ran.cells_left
    ran.output_left

-- ---- a continuation of no steps

module _ (image : List ℕ) (input store output : List ℤ) (from : RunResult) (steps : ℕ) (bytes : Bytes image)
    (none : refusal image store ≡ 0) (idle : steps ≡ 0) where
  -- it comes to the earlier result
  still : question14 (program_of image) input store output from 0 ≡ true
      → from ≡ numbers_of (run_from bare (program_of image) input steps from.steps from.mark
      (record { at = from.at; cells = store; output = output }))
  unfolding run_from numbers_of
  still passes =
      let c = (question14_exact image (refusal_none image store none).0 input store output from 0).0 passes in
      rw (idle, c.refusal, c.fault, c.outcome, c.trap, c.halt)

  -- the earlier result as it was, or a refusal
  pub continues_kept : (passes : Bool) → passes ≡ question14 (program_of image) input store output from 0
      → {r : RunResult} → r ≡ choose passes from (refused_with 14 0)
      → Continues image input store output from steps r store output
  unfolding choose run_from
  continues_kept true is result =
      let asked : question14 (program_of image) input store output from steps ≡ true = rw idle (sym is) in
      continues_run image input store output from steps bytes none asked (result ∙ still (sym is)) (rw idle) (rw idle)
  continues_kept false is result =
      let asked : question14 (program_of image) input store output from steps ≡ false = rw idle (sym is) in
      continues_14 image input store output from steps none asked result
