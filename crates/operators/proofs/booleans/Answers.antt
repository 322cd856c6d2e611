use borrow.Author.Tests.{ne_eqb}
use Rattle.prelude.specs.Choice.{choose}
use Rattle.operators.specs.Operators.{booleans_of}
use Rattle.values.proofs.Numbers.{inside, under, over}
use Rattle.operators.proofs.booleans.Goals as goal

pub returns-in-13 : goal.returns-in-13
unfolding booleans_of choose
returns-in-13 c = rw c.in-13.is

pub returns-in-14 : goal.returns-in-14
unfolding booleans_of choose
returns-in-14 c = rw c.in-14.is

pub returns-in-7-to-8 : goal.returns-in-7-to-8
unfolding booleans_of choose
returns-in-7-to-8 c = rw (c.compare.ensures, inside 7 8 _ c.in-7-to-8.if-op-lt7-own.false c.in-7-to-8.if-op-lt9-own.true)

pub returns-in_default : goal.returns-in_default
unfolding booleans_of choose
returns-in_default c =
    let op = c.args.op in
    let m = c.in_default.in_default-own.rest in
    rw (under 7 8 op c.in_default.if-op-lt7-own.true, ne_eqb op 13 m.0.1, ne_eqb op 14 m.1)

pub returns-in_default-2 : goal.returns-in_default-2
unfolding booleans_of choose
returns-in_default-2 c =
    let op = c.args.op in
    let m = c.in_default.in_default-own.rest in
    rw (over 7 8 op c.in_default.if-op-lt9-own.false, ne_eqb op 13 m.0.1, ne_eqb op 14 m.1)
