use mathlib.Core.Path.{◌∙◌}
use native.Mathlib.Omega.{arith}
use borrow.Author.Tests.{ne_eqb}
use Rattle.prelude.specs.Choice.{choose}
use Rattle.operators.specs.Operators.{integers_of}
use Rattle.values.proofs.Numbers.{plain32, inside, under, over}
use Rattle.operators.proofs.Comparing.{eq_bits}
use Rattle.operators.proofs.integers.Goals as goal

pub returns-in-16 : goal.returns-in-16
unfolding integers_of choose
returns-in-16 c =
    c.range.ensures ∙ rw (plain32 _ c.ranges.x, plain32 _ c.ranges.y, c.in-16.is)

pub returns-in-1-to-5 : goal.returns-in-1-to-5
unfolding integers_of choose
returns-in-1-to-5 c =
    c.arithmetic.ensures ∙ rw (plain32 _ c.ranges.x, plain32 _ c.ranges.y)
    (rw (inside 1 5 _ c.in-1-to-5.if-op-lt1-own.false c.in-1-to-5.if-op-lt6-own.true))

pub returns-in-7-to-12 : goal.returns-in-7-to-12
unfolding integers_of choose
returns-in-7-to-12 c =
    rw (c.compare.ensures, eq_bits _ _ c.ranges.x c.ranges.y, plain32 _ c.ranges.x, plain32 _ c.ranges.y)
    (rw (over 1 5 _ c.in-7-to-12.if-op-lt6-own.false)
    (rw (inside 7 12 _ c.in-7-to-12.if-op-lt7-own.false c.in-7-to-12.if-op-lt13-own.true)))

pub returns-in_default : goal.returns-in_default
unfolding integers_of choose
returns-in_default c =
    let op = c.args.op in
    rw (under 1 5 op c.in_default.if-op-lt1-own.true, under 7 12 op (omega arith), ne_eqb op 16 c.in_default.in_default-own.rest.1)

pub returns-in_default-2 : goal.returns-in_default-2
unfolding integers_of choose
returns-in_default-2 c =
    rw (over 1 5 _ c.in_default.if-op-lt6-own.false, under 7 12 _ c.in_default.if-op-lt7-own.true)
    (rw (ne_eqb _ 16 c.in_default.in_default-own.rest.1))

pub returns-in_default-3 : goal.returns-in_default-3
unfolding integers_of choose
returns-in_default-3 c =
    rw (over 1 5 _ c.in_default.if-op-lt6-own.false, over 7 12 _ c.in_default.if-op-lt13-own.false)
    (rw (ne_eqb _ 16 c.in_default.in_default-own.rest.1))
