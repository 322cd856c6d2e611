use native.Mathlib.Omega.{arith}
use Rattle.access.proofs.Bounds.{variables_few}
use Rattle.referents.proofs.Halving.{halved_none, halved_up, halved_down, halved_end}
use Rattle.referents.proofs.first_reaching.Goals as goal

pub overflow_add-high : goal.overflow_add-high
overflow_add-high c = omega (arith, c.requires, variables_few c.args.loaded.now.planned)

pub loop-high-init : goal.loop-high-init
loop-high-init c = halved_none _ _ _ _

pub overflow_sub-high : goal.overflow_sub-high
overflow_sub-high c = let i = c.loop-high.invariant in i.ordered

pub overflow_sub-middle : goal.overflow_sub-middle
overflow_sub-middle c = let i = c.loop-high.invariant in i.ordered

pub overflow_add-middle : goal.overflow_add-middle
overflow_add-middle c = let i = c.loop-high.invariant in
    omega (arith, i.ordered, i.most, c.requires, variables_few c.args.loaded.now.planned)

pub place_of-requires : goal.place_of-requires
place_of-requires c = let i = c.loop-high.invariant in
    omega (arith, i.ordered, i.most, c.requires)

pub loop-high-smaller-then-place_of-at : goal.loop-high-smaller-then-place_of-at
loop-high-smaller-then-place_of-at c = let i = c.loop-high.invariant in omega (arith, i.ordered)

pub loop-high-preserved-then-place_of-at : goal.loop-high-preserved-then-place_of-at
loop-high-preserved-then-place_of-at c = let i = c.loop-high.invariant in
    halved_up _ _ _ _ i (omega arith) (omega arith) c.place_of.ensures c.if-place_of-at.true

pub loop-high-smaller : goal.loop-high-smaller
loop-high-smaller c = let i = c.loop-high.invariant in omega (arith, i.ordered)

pub loop-high-preserved : goal.loop-high-preserved
loop-high-preserved c = let i = c.loop-high.invariant in
    halved_down _ _ _ _ i (omega arith) (omega arith) c.place_of.ensures c.if-place_of-at.false

pub returns : goal.returns
returns c = halved_end _ _ _ _ c.loop-high.invariant c.loop-high-test.false
