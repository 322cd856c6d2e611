use mathlib.Core.Path.{◌≡◌, sym, ◌∙◌}
use native.Mathlib.Omega.{arith}
use Prim.Native.Nat.{◌≤◌}
use lib.ListN.{length}
use Rattle.semantics.specs.Running.{refusal}
use Rattle.semantics.proofs.Giving.{run_gives}
use Rattle.semantics.proofs.Outcomes.{refusal_none}
use Rattle.access.proofs.Opening.{opened_ready}
use Rattle.machine.proofs.Results.{fresh_stands, store_refuses, gives_check, gives_store, gives_run}
use Rattle.machine.proofs.run.Goals as goal
use Rattle.machine.proofs.run.Goals.{Else-question-ne0}

-- `machine::run` meets its contract: the check, questions 12 and 13, and steps from the fresh state.

-- behind the questions
passed : (c : Else-question-ne0) → refusal c.args.image.now c.args.store.now ≡ 0
passed c =
    store_refuses _ _ (sym c.open_image-answer.ensures.value ∙ c.in-Ok.is)
    ∙ sym c.store_question-question.ensures ∙ c.if-question-ne0.false

pub returns-in_default : goal.returns-in_default
returns-in_default c =
    let all = run_gives _ _ _ _ _
    (gives_check _ _ (λ asked number some. number) _ _ _ c.in_default.is
    c.open_image-answer.ensures.value c.refused_by.ensures) in
    record { value = all.0; store = all.1.0; output = all.1.1 }

pub invariant_of-loaded : goal.invariant_of-loaded
invariant_of-loaded c =
    let ready = opened_ready _ _ _ _ (omega arith) c.in-Ok.is (sym c.open_image-answer.ensures.value)
    c.open_image-answer.ensures.plan in
    record { planned = ready.planned }

pub returns-then-question-ne0 : goal.returns-then-question-ne0
returns-then-question-ne0 c =
    let all = run_gives _ _ _ _ _
    (gives_store _ _ (λ asked number some. number) (sym c.open_image-answer.ensures.value ∙ c.in-Ok.is) _
    c.store_question-question.ensures c.if-question-ne0.true c.refused.ensures) in
    record { value = all.0; store = all.1.0; output = all.1.1 }

pub zero-requires : goal.zero-requires
zero-requires c =
    let none = passed (goal.at.zero-requires c).Else-question-ne0 in
    let (here, few, fits) = refusal_none _ _ none in
    omega (arith, c.first_top-top.ensures, fits)

pub advance-requires : goal.advance-requires
advance-requires c =
    let none = passed (goal.at.advance-requires c).Else-question-ne0 in
    let (here, few, fits) = refusal_none _ _ none in
    let room : c.first_top-top.result ≤ length c.args.store.now = omega (arith, c.first_top-top.ensures, fits) in (
      fresh_stands _ c.args.store.now _ c.global_room.ensures c.first_top-top.ensures room few c.zero.auto.store,
      omega arith,
      omega (arith, c.ranges.steps.fits),
      opened_ready _ _ _ _ (omega arith) c.in-Ok.is (sym c.open_image-answer.ensures.value)
          c.open_image-answer.ensures.plan,
    )

pub returns : goal.returns
returns c =
    let none = passed (goal.at.returns c).Else-question-ne0 in
    let all = run_gives _ _ _ _ _
    (gives_run _ _ _ _ _ (record { each = λ i. omega (arith, c.shared_slice_known-1.given i) }) none
    c.global_room.ensures c.first_top-top.ensures c.zero.ensures c.advance.ensures) in
    record { value = all.0; store = all.1.0; output = all.1.1 }
