use mathlib.Core.Path.{◌≡◌, sym, ◌∙◌}
use mathlib.Core.Bool.{true}
use Rattle.prelude.proofs.Choice.{clash}
use Rattle.asking.specs.Continuing.{unfinished, within_lent, mark_within}
use Rattle.resuming.proofs.Passing.{question_unfinished, question_within, question_marked, question_sound, marked_top}
use Rattle.resuming.proofs.continuable.Goals as goal
use Rattle.resuming.proofs.continuable.Goals.{then-is_unfinished, else-is_unfinished, then-is_within, else-is_within}
use Rattle.resuming.proofs.continuable.Goals.{Then-is_marked}

-- where the first three hold
all : (c : Then-is_marked) → (unfinished c.args.from ≡ true)
    × (within_lent c.args.input.now c.args.output.now c.args.from c.args.steps ≡ true)
    × (mark_within c.args.store.now c.args.from ≡ true)
all c = elim c.if-is_within.branch [
  | then-is_within w ↦ elim c.if-is_unfinished.branch [
    | then-is_unfinished v ↦ (
      sym c.is_unfinished.ensures ∙ v.if-is_unfinished.true,
      sym v.is_within.ensures ∙ sym v.value-is ∙ w.if-is_within.true,
      sym w.is_marked.ensures ∙ sym w.value-is ∙ c.if-is_marked.true,
    )
    | else-is_unfinished v ↦ clash (sym w.if-is_within.true ∙ v.value-is ∙ v.if-is_unfinished.false)
  ]
  | else-is_within w ↦ clash (sym c.if-is_marked.true ∙ w.value-is ∙ w.if-is_within.false)
]

pub sound-requires : goal.sound-requires
sound-requires c = (marked_top _ _ (all (goal.at.sound-requires c).Then-is_marked).2, c.requires.0, c.requires.1)

pub returns-then-is_marked : goal.returns-then-is_marked
returns-then-is_marked c =
    let (unfinished, within, marked) = all (goal.at.returns-then-is_marked c).Then-is_marked in
    c.sound.ensures ∙ sym (question_sound _ _ _ _ _ _ unfinished within marked)

pub returns-else-is_marked : goal.returns-else-is_marked
returns-else-is_marked c = c.if-is_marked.false ∙ sym (elim c.if-is_within.branch [
  | then-is_within w ↦
      question_marked _ _ _ _ _ _ (sym w.is_marked.ensures ∙ sym w.value-is ∙ c.if-is_marked.false)
  | else-is_within w ↦ elim c.if-is_unfinished.branch [
    | then-is_unfinished v ↦
        question_within _ _ _ _ _ _ (sym v.is_within.ensures ∙ sym v.value-is ∙ w.if-is_within.false)
    | else-is_unfinished v ↦
        question_unfinished _ _ _ _ _ _ (sym c.is_unfinished.ensures ∙ v.if-is_unfinished.false)
  ]
])
