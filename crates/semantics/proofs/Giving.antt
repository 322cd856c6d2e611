-- What a call gives back, by its refusal, the row of that, and how its run ended: what the code has to show.
use mathlib.Core.Path.{◌≡◌, refl, sym, ◌∙◌, ap}
use mathlib.Core.Bool.{true, false}
use mathlib.Core.List.{List}
use Prim.Native.Nat.{ℕ}
use borrow.Author.Tests.{eqb-true, eq-eqb, ne_eqb}
use lib.Dec.{eqb}
use lib.IntN.{ℤ}
use Rattle.prelude.proofs.Choice.{choose_yes, choose_no, choose_has}
use Rattle.checker.specs.Check.{check_of, row_of}
use Rattle.semantics.specs.declared.RunResult.{RunResult}
use Rattle.semantics.specs.Memory.{Cell}
use Rattle.semantics.specs.Running.{Ended, refusal, ran_of, numbers_of, refused_with, result_by, store_by, output_by}
use Rattle.semantics.specs.Running.{result_of, store_after, output_after}
use Rattle.semantics.proofs.Simulation.{erase_ended}

-- a call's numbers, every cell of the store and every output place
pub record GivesBack (q row : ℕ) (e : Ended Cell) (store output : List ℤ) (r : RunResult) (cells places : List ℤ)
    : Type 0 where
  pub result : r ≡ result_by q row e
  pub left : cells ≡ store_by q e store
  pub sent : places ≡ output_by q e output

-- what holds of the numbers of the run and of the refusal holds of the result
pub result_has : (q row : ℕ) (e : Ended Cell) (P : RunResult → Type 0) → (q ≡ 0 → P (numbers_of e))
    → P (refused_with q row) → P (result_by q row e)
unfolding result_by
result_has q row e P ran refused = choose_has P _ (λ z. ran (eqb-true _ _ z)) (λ z. refused)

-- the result has the number of the refusal, or 0
pub result_refusal : (q row : ℕ) (e : Ended Cell) → (result_by q row e).refusal ≡ q
unfolding result_by numbers_of refused_with
result_refusal q row e = choose_has (λ (r : RunResult). r.refusal ≡ q) _ (λ z. sym (eqb-true _ _ z)) (λ z. refl)

module _ {q row : ℕ} {e : Ended Cell} {store output : List ℤ} {r : RunResult} where
  -- a refusal
  pub gives_refused : {asked at : ℕ} → q ≡ asked → row ≡ at → (asked ≡ 0 → ⊥) → r ≡ refused_with asked at
      → GivesBack q row e store output r store output
  unfolding result_by store_by output_by
  gives_refused number here some result =
      let refuses : eqb q 0 ≡ false = ne_eqb q 0 (λ z. some (sym number ∙ z)) in
      record {
        result = result ∙ sym (choose_no _ _ _ refuses ∙ rw (number, here));
        left = sym (choose_no _ _ _ refuses);
        sent = sym (choose_no _ _ _ refuses);
      }

  -- no refusal: the tagged machine's run, since the code's is the bare one's
  pub gives_ended : {ran : Ended ℤ} {cells places : List ℤ} → q ≡ 0 → ran ≡ erase_ended e → r ≡ numbers_of ran
      → ran.state.cells ≡ cells → ran.state.output ≡ places → GivesBack q row e store output r cells places
  unfolding result_by store_by output_by numbers_of
  gives_ended none same result left sent =
      let yes : eqb q 0 ≡ true = eq-eqb q 0 none in
      record {
        result = result ∙ ap (λ (x : Ended ℤ). numbers_of x) same ∙ sym (choose_yes _ _ _ yes);
        left = sym left ∙ ap (λ (x : Ended ℤ). x.state.cells) same ∙ sym (choose_yes _ _ _ yes);
        sent = sym sent ∙ ap (λ (x : Ended ℤ). x.state.output) same ∙ sym (choose_yes _ _ _ yes);
      }

-- a run's are those of its contract
pub run_gives : (image : List ℕ) (input store output : List ℤ) (steps : ℕ) {r : RunResult} {cells places : List ℤ}
    → GivesBack (refusal image store) (row_of (check_of image)) (ran_of image input store output steps) store output r
    cells places
    → (r ≡ result_of image input store output steps) × ((cells ≡ store_after image input store output steps)
    × (places ≡ output_after image input store output steps))
unfolding result_of store_after output_after
run_gives image input store output steps h = (h.result, (h.left, h.sent))
