use mathlib.Core.Path.{sym, ◌∙◌}
use native.Mathlib.Omega.{arith}
use Rattle.objects.specs.Looking.{settled}
use Rattle.objects.proofs.Looks.{edges_less, looks_on, below_on}
use Rattle.objects.proofs.Records.{in_table}
use Rattle.objects.proofs.Deciding.{by_inner}
use Rattle.objects.proofs.reached.Goals as goal

pub parts-requires : goal.parts-requires
parts-requires c = (c.requires.0, c.requires.1, in_table c.requires.2 c.loop-u.invariant.0, c.loop-u.invariant.1, c.loop-u.invariant.2)

pub returns-in-Yes : goal.returns-in-Yes
unfolding settled
returns-in-Yes c = let l = c.loop-u in
    λ edges. rw c.in-Yes.is at (c.parts.ensures.result_value (edges_less l.invariant.0 edges)) ∙ sym (l.invariant.3 edges)

pub returns-in-No : goal.returns-in-No
unfolding settled
returns-in-No c = let l = c.loop-u in
    λ edges. rw c.in-No.is at (c.parts.ensures.result_value (edges_less l.invariant.0 edges)) ∙ sym (l.invariant.3 edges)

pub loop-u-smaller : goal.loop-u-smaller
loop-u-smaller c = (below_on c.in-Inside.is c.parts.ensures.lower).0

pub loop-u-preserved : goal.loop-u-preserved
loop-u-preserved c = let l = c.loop-u in
    let (less, some, inside) = below_on c.in-Inside.is c.parts.ensures.lower in (
      omega arith,
      some,
      inside,
      λ edges.
          let same = looks_on _ c.in-Inside.is
          (c.parts.ensures.result_value (edges_less l.invariant.0 edges)) in
          l.invariant.3 edges ∙ sym same ∙ by_inner c.requires.0 c.args.w _ (omega arith) _ (omega arith),
    )
