use native.Mathlib.Omega.{arith}
use mathlib.Core.Path.{sym, ◌∙◌}
use Rattle.prelude.proofs.Choice.{also_left, also_pass, also_true, also_right}
use Rattle.access.proofs.Bounds.{variables_few}
use Rattle.unwinding.proofs.Next.{skips_by}
use Rattle.resuming.specs.Reading.{frames_sound}
use Rattle.resuming.proofs.frames_sound.Goals as goal

pub returns-then-not-walk : goal.returns-then-not-walk
unfolding frames_sound
returns-then-not-walk c = sym (also_left _ (sym c.walk.ensures.value ∙ c.if-not-walk.true))

pub fill_next-requires : goal.fill_next-requires
fill_next-requires c = omega arith

pub values_hold-requires : goal.values_hold-requires
values_hold-requires c =
    let filled = c.fill_next.ensures in
    let walked = c.walk.ensures in
    let yes-all = c.if-not-walk.false in
    let (ends, links) = also_true _ _ (sym walked.value ∙ yes-all) in (
      skips_by _ (omega (arith, variables_few c.args.loaded.now.planned)) filled,
      c.requires.0,
      c.requires.1,
      record { ends = ends; links = links },
    )

pub returns-else-values_hold : goal.returns-else-values_hold
unfolding frames_sound
returns-else-values_hold c =
    c.if-values_hold.false ∙ sym (also_right _ (also_left _ (sym c.values_hold.ensures ∙ c.if-values_hold.false)))

pub references-requires : goal.references-requires
references-requires c =
    let filled = c.fill_next.ensures in
    let yes-all = c.if-not-walk.false in
    let (ends, links) = also_true _ _ (sym c.walk.ensures.value ∙ yes-all) in (
      skips_by _ (omega (arith, variables_few c.args.loaded.now.planned)) filled,
      record {
        walked = record { ends = ends; links = links };
        blocked = c.walk.ensures.blocks yes-all;
        table = omega arith;
        cells = c.requires.0;
        small = c.requires.1;
      },
    )

pub returns-then-values_hold : goal.returns-then-values_hold
unfolding frames_sound
returns-then-values_hold c =
    let yes-all = c.if-not-walk.false in
    c.references.ensures
    ∙ sym (also_pass _ (sym c.walk.ensures.value ∙ yes-all)
    ∙ also_pass _ (sym c.values_hold.ensures ∙ c.if-values_hold.true))
