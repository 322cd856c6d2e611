use borrow.Author.Tests.{ne_eqb}
use Rattle.prelude.specs.Choice.{choose}
use Rattle.operators.specs.Operators.{compare_of}
use Rattle.operators.proofs.compare.Goals as goal

-- `operators::compare` meets its contract: by the operator number.
pub returns-in-7 : goal.returns-in-7
unfolding compare_of choose
returns-in-7 c = rw c.in-7.is

pub returns-in-8 : goal.returns-in-8
unfolding compare_of choose
returns-in-8 c = rw c.in-8.is

pub returns-in-9 : goal.returns-in-9
unfolding compare_of choose
returns-in-9 c = rw c.in-9.is

pub returns-in-10 : goal.returns-in-10
unfolding compare_of choose
returns-in-10 c = rw c.in-10.is

pub returns-in-11 : goal.returns-in-11
unfolding compare_of choose
returns-in-11 c = rw c.in-11.is

pub returns-in_default : goal.returns-in_default
unfolding compare_of choose
returns-in_default c =
    let m = c.in_default.in_default-own.rest in
    rw (ne_eqb _ 7 m.0.0.0.0.1, ne_eqb _ 8 m.0.0.0.1, ne_eqb _ 9 m.0.0.1)
    (rw (ne_eqb _ 10 m.0.1, ne_eqb _ 11 m.1))
