use mathlib.Core.Path.{◌≡◌, sym, ◌∙◌}
use native.Mathlib.Omega.{arith}
use Rattle.image.specs.Rows.{Bytes}
use Rattle.semantics.specs.Running.{refusal}
use Rattle.semantics.proofs.Outcomes.{refusal_none}
use Rattle.access.proofs.Opening.{opened_ready}
use Rattle.asking.proofs.Continuing.{question14_exact, continue_refused}
use Rattle.asking.proofs.Giving.{continue_gives, continues_14, continued_ranged, continued_marked, continues_run}
use Rattle.machine.proofs.Results.{store_refuses, gives_check, gives_store, continues_kept}
use Rattle.machine.proofs.resume.Goals as goal
use Rattle.machine.proofs.resume.Goals.{Else-question-ne0}

-- `machine::resume` meets its contract: the check, questions 12 to 14, and steps from where the earlier result stands.

-- behind questions 12 and 13
passed : (c : Else-question-ne0) → refusal c.args.image.now c.args.store.now ≡ 0
passed c =
    store_refuses _ _ (sym c.open_image-answer.ensures.value ∙ c.in-Ok.is)
    ∙ sym c.store_question-question.ensures ∙ c.if-question-ne0.false

bytes : (c : Else-question-ne0) → Bytes c.args.image.now
bytes c = record { each = λ i. omega (arith, c.shared_slice_known-1.given i) }

pub returns-in_default : goal.returns-in_default
returns-in_default c =
    let all = continue_gives _ _ _ _ _ _
    (gives_check _ _ (continue_refused _ _ _ _ _ _) _ _ _ c.in_default.is
    c.open_image-answer.ensures.value c.refused_by.ensures) in
    record { value = all.0; store = all.1.0; output = all.1.1 }

pub invariant_of-loaded : goal.invariant_of-loaded
invariant_of-loaded c =
    let ready = opened_ready _ _ _ _ (omega arith) c.in-Ok.is (sym c.open_image-answer.ensures.value)
    c.open_image-answer.ensures.plan in
    record { planned = ready.planned }

pub returns-then-question-ne0 : goal.returns-then-question-ne0
returns-then-question-ne0 c =
    let all = continue_gives _ _ _ _ _ _
    (gives_store _ _ (continue_refused _ _ _ _ _ _) (sym c.open_image-answer.ensures.value ∙ c.in-Ok.is) _
    c.store_question-question.ensures c.if-question-ne0.true c.refused.ensures) in
    record { value = all.0; store = all.1.0; output = all.1.1 }

pub continuable-passes-requires : goal.continuable-passes-requires
continuable-passes-requires c =
    let none = passed (goal.at.continuable-passes-requires c).Else-question-ne0 in
    let ready = opened_ready _ _ _ _ (omega arith) c.in-Ok.is (sym c.open_image-answer.ensures.value)
    c.open_image-answer.ensures.plan in
    ((refusal_none _ _ none).1, ready)

pub returns-then-steps-eq0 : goal.returns-then-steps-eq0
returns-then-steps-eq0 c =
    let asked = (goal.at.returns-then-steps-eq0 c).Else-question-ne0 in
    let none = passed asked in
    let all = continue_gives _ _ _ _ _ _
    (continues_kept _ _ _ _ _ _ (bytes asked) none c.if-steps-eq0.true _
    c.continuable-passes.ensures c.kept.ensures) in
    record { value = all.0; store = all.1.0; output = all.1.1 }

pub continuable-requires : goal.continuable-requires
continuable-requires c =
    let none = passed (goal.at.continuable-requires c).Else-question-ne0 in
    let ready = opened_ready _ _ _ _ (omega arith) c.in-Ok.is (sym c.open_image-answer.ensures.value)
    c.open_image-answer.ensures.plan in
    ((refusal_none _ _ none).1, ready)

pub returns-then-not-continuable : goal.returns-then-not-continuable
returns-then-not-continuable c =
    let none = passed (goal.at.returns-then-not-continuable c).Else-question-ne0 in
    let all = continue_gives _ _ _ _ _ _
    (continues_14 _ _ _ _ _ _ none
    (sym c.continuable.ensures ∙ c.if-not-continuable.true) c.refused-then-not-continuable.ensures) in
    record { value = all.0; store = all.1.0; output = all.1.1 }

pub advance-requires : goal.advance-requires
advance-requires c =
    let asked = (goal.at.advance-requires c).Else-question-ne0 in
    let none = passed asked in
    let passes = sym c.continuable.ensures ∙ c.if-not-continuable.false in
    let ranged = continued_ranged _ _ _ _ _ _ (bytes asked) none passes in
    let marked = continued_marked _ _ _ _ _ _ (bytes asked) none passes in
    let steps = ((question14_exact _ (sym c.open_image-answer.ensures.value ∙ c.in-Ok.is) _ _ _ _ _).0 passes).steps in (
      record {
        row = omega (arith, ranged.row);
        base = omega (arith, ranged.base);
        top = omega (arith, ranged.top);
        few = ranged.few;
      },
      omega (arith, marked),
      omega (arith, steps),
      opened_ready _ _ _ _ (omega arith) c.in-Ok.is (sym c.open_image-answer.ensures.value)
          c.open_image-answer.ensures.plan,
    )

pub returns : goal.returns
returns c =
    let asked = (goal.at.returns c).Else-question-ne0 in
    let none = passed asked in
    let passes = sym c.continuable.ensures ∙ c.if-not-continuable.false in
    let stops = c.advance.ensures in
    let all = continue_gives _ _ _ _ _ _
    (continues_run _ _ _ _ _ _ (bytes asked) none passes stops.answer stops.cells_left stops.output_left) in
    record { value = all.0; store = all.1.0; output = all.1.1 }
