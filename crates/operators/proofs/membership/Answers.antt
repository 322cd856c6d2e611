use borrow.Author.Tests.{ne_eqb}
use Rattle.prelude.specs.Choice.{choose}
use Rattle.operators.specs.Operators.{membership_of}
use Rattle.values.proofs.Numbers.{plain32}
use Rattle.operators.proofs.membership.Goals as goal

pub returns-in-15 : goal.returns-in-15
unfolding membership_of choose
returns-in-15 c =
    rw (c.contains.ensures, plain32 _ c.ranges.x, c.in-15.is)

pub returns-in_default : goal.returns-in_default
unfolding membership_of choose
returns-in_default c = rw (ne_eqb _ 15 c.in_default.in_default-own.rest.1)
