use mathlib.Core.Path.{refl, sym, ◌∙◌}
use native.Mathlib.Omega.{arith}
use Rattle.objects.proofs.Looks.{fields_next, ahead_row, ahead_small, ahead_planned, ahead_few, ahead_next}
use Rattle.objects.proofs.Looks.{first_yes, first_no_lem, first_next}
use Rattle.objects.proofs.among_first.Goals as goal

pub loop-w-init : goal.loop-w-init
loop-w-init c = (c.requires.0, λ deeper e m ends edges fields. (fields, refl))

pub a_at-u-requires : goal.a_at-u-requires
a_at-u-requires c = ahead_row c.loop-w.invariant.0

pub marked-requires : goal.marked-requires
marked-requires c =
    (c.requires.1, ahead_few c.loop-w.invariant.0 c.a_at-u.ensures)

pub returns-then-marked : goal.returns-then-marked
returns-then-marked c = λ deeper e m ends edges fields.
    let (here, same) = c.loop-w.invariant.1 deeper e m ends edges fields in
    sym (same ∙ first_yes edges here c.a_at-u.ensures c.marked.ensures c.if-marked.true)

pub bounds-plan-u : goal.bounds-plan-u
bounds-plan-u c =
    ahead_planned c.loop-w.invariant.0 c.a_at-u.ensures

pub returns-then-plan-u-gt0 : goal.returns-then-plan-u-gt0
returns-then-plan-u-gt0 c = λ deeper e m ends edges fields.
    let (here, same) = c.loop-w.invariant.1 deeper e m ends edges fields in
    sym (same ∙ first_no_lem edges here c.a_at-u.ensures c.marked.ensures refl c.if-marked.false
    c.if-plan-u-gt0.true)

pub overflow_add-j : goal.overflow_add-j
overflow_add-j c = omega (arith, ahead_small c.loop-w.invariant.0)

pub loop-w-smaller : goal.loop-w-smaller
loop-w-smaller c = omega (arith, ahead_row c.loop-w.invariant.0)

pub loop-w-preserved : goal.loop-w-preserved
loop-w-preserved c = let l = c.loop-w in
    let this = c.a_at-u.ensures in (
      ahead_next l.invariant.0 this refl (omega arith),
      λ deeper e m ends edges fields.
          let (here, same) = l.invariant.1 deeper e m ends edges fields in (
            fields_next here this refl (omega arith),
            same ∙ first_next edges here this c.marked.ensures refl c.if-marked.false c.if-plan-u-gt0.false,
          ),
    )
