use mathlib.Core.Path.{ap, ◌∙◌}
use borrow.Author.Tests.{ne_eqb}
use lib.IntN.{neg_ℤ, +ℤ_idl}
use Rattle.prelude.specs.Choice.{choose}
use Rattle.operators.specs.Operators.{monadic_of}
use Rattle.integers.specs.Integers.{integer_of}
use Rattle.values.proofs.Numbers.{plain32}
use borrow.Author.Rules.{rules}
use Rattle.operators.proofs.monadic.Goals as goal

pub returns-in-Int-eq1 : goal.returns-in-Int-eq1
unfolding monadic_of choose
returns-in-Int-eq1 c =
    let x = c.in-Int-eq1.x in
    c.subtract.ensures ∙ rw (c.in-Int-eq1.is-0, plain32 x (search rules), c.in-Int-eq1.is-1)
    (ap integer_of (+ℤ_idl (neg_ℤ x)))

pub returns-in-Set-eq1 : goal.returns-in-Set-eq1
unfolding monadic_of choose
returns-in-Set-eq1 c = rw (c.complement.ensures, c.in-Set-eq1.is-0, c.in-Set-eq1.is-1)

pub returns-in-Bool-eq2 : goal.returns-in-Bool-eq2
unfolding monadic_of choose
returns-in-Bool-eq2 c = rw (c.in-Bool-eq2.is-0, c.in-Bool-eq2.is-1)

pub returns-in_default : goal.returns-in_default
unfolding monadic_of choose
returns-in_default c = rw (c.in_default.is-0, ne_eqb _ 1 c.in_default.is-1.1)

pub returns-in_default-2 : goal.returns-in_default-2
unfolding monadic_of choose
returns-in_default-2 c = rw (c.in_default.is-0, ne_eqb _ 1 c.in_default.is-1.1)

pub returns-in_default-3 : goal.returns-in_default-3
unfolding monadic_of choose
returns-in_default-3 c = rw (c.in_default.is-0, ne_eqb _ 2 c.in_default.is-1.1)
