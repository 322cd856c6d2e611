-- `operators::decides` meets its contract: by the kind of the operand and the operator number.
use mathlib.Core.Path.{sym}
use borrow.Author.Tests.{ne_eqb}
use Rattle.prelude.specs.Choice.{choose}
use Rattle.values.specs.Values.{as_boolean}
use Rattle.operators.specs.Operators.{decides as decides_of}
use Rattle.operators.proofs.Operands.{no_boolean_decides}
use Rattle.operators.proofs.decides.Goals as goal

pub returns-in-Bool-eq13 : goal.returns-in-Bool-eq13
unfolding decides_of as_boolean choose
returns-in-Bool-eq13 c = rw (c.in-Bool-eq13.is-0, c.in-Bool-eq13.is-1)

pub returns-in-Bool-eq14 : goal.returns-in-Bool-eq14
unfolding decides_of as_boolean choose
returns-in-Bool-eq14 c = rw (c.in-Bool-eq14.is-0, c.in-Bool-eq14.is-1)

pub returns-in_default : goal.returns-in_default
unfolding decides_of as_boolean choose
returns-in_default c =
    let m = c.in_default.is-1 in
    rw (c.in_default.is-0, ne_eqb _ 13 m.0.1, ne_eqb _ 14 m.1)

pub returns-in_default-2 : goal.returns-in_default-2
returns-in_default-2 c = sym (no_boolean_decides _ _ c.in_default.not-Bool-0)
