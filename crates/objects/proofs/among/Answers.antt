use mathlib.Core.Path.{refl, sym, ◌∙◌}
use native.Mathlib.Omega.{arith}
use Rattle.objects.specs.Looking.{Below.inside_below}
use Rattle.objects.proofs.Looks.{looks_inside, looks_told, below_told, field_low, fields_next}
use Rattle.objects.proofs.Looks.{ahead_row, ahead_small, ahead_planned, ahead_few, ahead_next}
use Rattle.objects.proofs.Looks.{turn_in, turn_yes, turn_end, turn_next}
use Rattle.objects.proofs.among.Goals as goal
use Rattle.objects.proofs.among.Goals.{then-marked, else-marked}

pub loop-rest-init : goal.loop-rest-init
loop-rest-init c = (c.requires.2, c.requires.0, λ e m fields. fields, λ deeper e m edges fields. refl)

pub a_at-u-requires : goal.a_at-u-requires
a_at-u-requires c = ahead_row c.loop-rest.invariant.1

pub bounds-plan-u : goal.bounds-plan-u
bounds-plan-u c = ahead_planned c.loop-rest.invariant.1 c.a_at-u.ensures

pub returns-then-rest-size : goal.returns-then-rest-size
returns-then-rest-size c = let l = c.loop-rest in
    let this = c.a_at-u.ensures in record {
      by_index = λ deeper e m edges fields.
          looks_inside deeper _ _ (l.invariant.3 deeper e m edges fields
          ∙ turn_in edges (l.invariant.2 e m fields) this refl c.if-rest-size.true);
      lower = λ e m fields. inside_below (field_low (l.invariant.2 e m fields) this) l.invariant.0 c.if-rest-size.true;
    }

pub marked-requires : goal.marked-requires
marked-requires c = (c.requires.1, ahead_few c.loop-rest.invariant.1 c.a_at-u.ensures)

pub overflow_add-j : goal.overflow_add-j
overflow_add-j c = omega (arith, ahead_small c.loop-rest.invariant.1)

pub among_first-requires : goal.among_first-requires
among_first-requires c = (
  ahead_next c.loop-rest.invariant.1 c.a_at-u.ensures refl (omega arith),
  c.requires.1,
)

pub returns-then-rest-size-2 : goal.returns-then-rest-size-2
returns-then-rest-size-2 c = let l = c.loop-rest in
    let this = c.a_at-u.ensures in record {
      by_index = λ deeper e m edges fields.
          let here = l.invariant.2 e m fields in
          let whole = sym (l.invariant.3 deeper e m edges fields) in
          looks_told deeper c.from.ensures (elim c.if-marked.branch [
            | then-marked w ↦ w.from-is ∙ w.if-marked.true ∙ sym (turn_yes edges here this refl (omega arith) c.marked.ensures w.if-marked.true) ∙ whole
            | else-marked w ↦
                w.from-is ∙ w.among_first.ensures deeper e m _ edges (fields_next here this refl (omega arith))
                ∙ sym (turn_end edges here this refl (omega arith) c.marked.ensures w.if-marked.false) ∙ whole
          ]);
      lower = λ e m fields. below_told _ c.from.ensures;
    }

pub overflow_add-j-in-loop-rest : goal.overflow_add-j-in-loop-rest
overflow_add-j-in-loop-rest c = omega (arith, ahead_small c.loop-rest.invariant.1)

pub loop-rest-smaller : goal.loop-rest-smaller
loop-rest-smaller c = omega (arith, ahead_row c.loop-rest.invariant.1)

pub loop-rest-preserved : goal.loop-rest-preserved
loop-rest-preserved c = let l = c.loop-rest in
    let this = c.a_at-u.ensures in (
      omega arith,
      ahead_next l.invariant.1 this refl (omega arith),
      λ e m fields. fields_next (l.invariant.2 e m fields) this refl (omega arith),
      λ deeper e m edges fields.
          l.invariant.3 deeper e m edges fields ∙ turn_next edges (l.invariant.2 e m fields) this refl (omega arith),
    )
