-- "A continue call takes the image, the store and that result." What is asked before it, and what it gives.
use Rattle.std.specs.Prelude.{ℕ, ◌+◌, ◌≤◌, ◌≡◌, Bool, List, leb, eqb, ℤ, pos, length}
use Rattle.prelude.specs.Choice.{choose, ◌also◌}
use Rattle.checker.specs.Check.{check_of, row_of}
use Rattle.semantics.specs.declared.RunResult.{RunResult}
use Rattle.semantics.specs.Memory.{Cell, tagged}
use Rattle.semantics.specs.Layout.{Program}
use Rattle.semantics.specs.Sound.{Sound}
use Rattle.semantics.specs.Running.{program_of, Ended, run_from, refusal, result_by, store_by, output_by}
use Rattle.semantics.specs.Running.{result_of, store_after, output_after}
use Rattle.asking.specs.State.{is_number, sound_of}
use Rattle.asking.specs.Resuming.{resumed}

-- ---- "New numbers, from here on with row 0: 14, after 13"

-- what passes: none of "a refusal, its row, outcome, trap or HALT number is not 0, the state is not sound (each cell
-- taken as the kind that its place in a frame gives), a count exceeds its lent list, or steps done plus steps lent
-- exceed 4294967295", and "question 14 refuses a mark below top or above the store's length"
pub record Continuable (g : Program) (input store output : List ℤ) (r : RunResult) (n : ℕ) : Type 0 where
  pub refusal : r.refusal ≡ 0
  pub fault : r.fault ≡ 0
  pub outcome : r.outcome ≡ 0
  pub trap : r.trap ≡ 0
  pub halt : r.halt ≡ pos 0
  pub sound : Sound g (resumed g r.at store output)
  pub read : r.at.read ≤ length input
  pub written : r.at.written ≤ length output
  pub steps : r.steps + n ≤ 4294967295
  pub mark_top : r.at.top ≤ r.mark
  pub mark_store : r.mark ≤ length store

-- "a refusal, its row, outcome, trap or HALT number" are all 0
unfoldable pub unfinished : RunResult → Bool
unfinished r =
    eqb r.refusal 0
    also eqb r.fault 0
    also eqb r.outcome 0
    also eqb r.trap 0
    also is_number r.halt 0

-- no "count exceeds its lent list", nor "steps done plus steps lent exceed 4294967295"
unfoldable pub within_lent : List ℤ → List ℤ → RunResult → ℕ → Bool
within_lent input output r n =
    leb r.at.read (length input) also leb r.at.written (length output) also leb (r.steps + n) 4294967295

-- no "mark below top or above the store's length"
unfoldable pub mark_within : List ℤ → RunResult → Bool
mark_within store r = leb r.at.top r.mark also leb r.mark (length store)

-- the question's answer
unfoldable pub question14 : Program → List ℤ → List ℤ → List ℤ → RunResult → ℕ → Bool
question14 g input store output r n =
    unfinished r also sound_of g r.at store also within_lent input output r n also mark_within store r

-- the number of a refusal, or 0
unfoldable pub continue_refusal : List ℕ → List ℤ → List ℤ → List ℤ → RunResult → ℕ → ℕ
continue_refusal image input store output r n =
    choose (eqb (refusal image store) 0) (choose (question14 (program_of image) input store output r n) 0 14)
    (refusal image store)

-- ---- the results

-- n steps more from the state of a result, whose own steps count, and "takes its mark from the earlier result"
unfoldable pub continued_of : List ℕ → List ℤ → List ℤ → List ℤ → RunResult → ℕ → Ended Cell
continued_of image input store output r n =
    run_from tagged (program_of image) input n r.steps r.mark (resumed (program_of image) r.at store output)

-- a refusal by 12 to 14 has row 0, as the check refuses none
unfoldable pub continue_result : List ℕ → List ℤ → List ℤ → List ℤ → RunResult → ℕ → RunResult
continue_result image input store output r n =
    result_by (continue_refusal image input store output r n) (row_of (check_of image))
    (continued_of image input store output r n)

unfoldable pub continued_store : List ℕ → List ℤ → List ℤ → List ℤ → RunResult → ℕ → List ℤ
continued_store image input store output r n =
    store_by (continue_refusal image input store output r n) (continued_of image input store output r n) store

unfoldable pub continued_output : List ℕ → List ℤ → List ℤ → List ℤ → RunResult → ℕ → List ℤ
continued_output image input store output r n =
    output_by (continue_refusal image input store output r n) (continued_of image input store output r n) output

-- ---- a run and a continuation as they are called

-- what each leaves: the result, the store, and the output
pub record Left : Type 0 where
  pub result : RunResult
  pub store : List ℤ
  pub output : List ℤ

unfoldable pub after_run : List ℕ → List ℤ → List ℤ → List ℤ → ℕ → Left
after_run image input store output n = record {
  result = result_of image input store output n;
  store = store_after image input store output n;
  output = output_after image input store output n;
}

-- "A continue call takes the image, the store and that result."
unfoldable pub after_continue : List ℕ → List ℤ → Left → ℕ → Left
after_continue image input l n = record {
  result = continue_result image input l.store l.output l.result n;
  store = continued_store image input l.store l.output l.result n;
  output = continued_output image input l.store l.output l.result n;
}

-- the number of the refusal of a continuation of what was left, or 0
abbrev pub refusal_on : List ℕ → List ℤ → Left → ℕ → ℕ
refusal_on image input l n = continue_refusal image input l.store l.output l.result n
