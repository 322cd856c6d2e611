use mathlib.Core.Path.{◌∙◌}
use borrow.Author.Tests.{ne_eqb}
use Rattle.prelude.specs.Choice.{choose}
use Rattle.integers.specs.Integers.{arithmetic_of}
use Rattle.values.proofs.Numbers.{plain32}
use Rattle.integers.proofs.arithmetic.Goals as goal

pub returns-in-1 : goal.returns-in-1
unfolding arithmetic_of choose
returns-in-1 c =
    c.add.ensures ∙ rw (plain32 _ c.ranges.x, plain32 _ c.ranges.y, c.in-1.is)

pub returns-in-2 : goal.returns-in-2
unfolding arithmetic_of choose
returns-in-2 c =
    c.subtract.ensures ∙ rw (plain32 _ c.ranges.x, plain32 _ c.ranges.y, c.in-2.is)

pub returns-in-3 : goal.returns-in-3
unfolding arithmetic_of choose
returns-in-3 c =
    c.multiply.ensures ∙ rw (plain32 _ c.ranges.x, plain32 _ c.ranges.y, c.in-3.is)

pub returns-in_default : goal.returns-in_default
unfolding arithmetic_of choose
returns-in_default c =
    let m = c.in_default.in_default-own.rest in
    c.divide.ensures ∙ rw (plain32 _ c.ranges.x, plain32 _ c.ranges.y)
    (rw (ne_eqb _ 1 m.0.0.1, ne_eqb _ 2 m.0.1, ne_eqb _ 3 m.1))
