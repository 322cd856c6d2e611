use borrow.Author.Tests.{ne_eqb}
use Rattle.prelude.specs.Choice.{choose}
use Rattle.kinds.specs.Kinds.{monadic_kind}
use Rattle.values.proofs.Numbers.{inside, under, over}
use Rattle.kinds.proofs.monadic_kind.Goals as goal

-- `kinds::monadic_kind` meets its contract: by the operator number and the kind of the operand.
pub returns-in-1-to-2 : goal.returns-in-1-to-2
unfolding monadic_kind choose
returns-in-1-to-2 c =
    rw (c.in-1.is, inside 1 2 _ c.in-1-to-2.if-operand-lt1-own.false c.in-1-to-2.if-operand-lt3-own.true)

pub returns-in_default-operand : goal.returns-in_default-operand
unfolding monadic_kind choose
returns-in_default-operand c = rw (c.in-1.is, under 1 2 _ c.in_default-operand.if-operand-lt1-own.true)

pub returns-in_default-operand-3 : goal.returns-in_default-operand-3
unfolding monadic_kind choose
returns-in_default-operand-3 c =
    rw (c.in-1.is, over 1 2 _ c.in_default-operand.if-operand-lt3-own.false)

pub returns-in-0 : goal.returns-in-0
unfolding monadic_kind choose
returns-in-0 c = rw (c.in-2.is, c.in-0.is)

pub returns-in_default-operand-2 : goal.returns-in_default-operand-2
unfolding monadic_kind choose
returns-in_default-operand-2 c = rw (c.in-2.is, ne_eqb _ 0 c.in_default-operand-2.in_default-operand-2-own.rest.1)

pub returns-in_default : goal.returns-in_default
unfolding monadic_kind choose
returns-in_default c = rw (ne_eqb _ 1 c.in_default.in_default-own.rest.0.1, ne_eqb _ 2 c.in_default.in_default-own.rest.1)
