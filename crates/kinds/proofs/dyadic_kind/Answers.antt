use mathlib.Core.Path.{◌∙◌}
use borrow.Author.Tests.{ne_eqb}
use Rattle.prelude.specs.Choice.{choose}
use Rattle.kinds.specs.Kinds.{dyadic_kind}
use Rattle.kinds.proofs.dyadic_kind.Goals as goal

pub returns-in-0-right : goal.returns-in-0-right
unfolding dyadic_kind choose
returns-in-0-right c = c.booleans_kind.ensures ∙ rw (c.in-0.is, c.in-0-right.is)

pub returns-in_default-right : goal.returns-in_default-right
unfolding dyadic_kind choose
returns-in_default-right c = rw (c.in-0.is, ne_eqb _ 0 c.in_default-right.in_default-right-own.rest.1)

pub returns-in-1-right : goal.returns-in-1-right
unfolding dyadic_kind choose
returns-in-1-right c = c.integers_kind.ensures ∙ rw (c.in-1.is, c.in-1-right.is)

pub returns-in-15 : goal.returns-in-15
unfolding dyadic_kind choose
returns-in-15 c = rw (c.in-1.is, c.in-2-right.is, c.in-15.is)

pub returns-in_default-op : goal.returns-in_default-op
unfolding dyadic_kind choose
returns-in_default-op c = rw (c.in-1.is, c.in-2-right.is, ne_eqb _ 15 c.in_default-op.in_default-op-own.rest.1)

pub returns-in_default-right-2 : goal.returns-in_default-right-2
unfolding dyadic_kind choose
returns-in_default-right-2 c = rw (c.in-1.is, ne_eqb _ 1 c.in_default-right-2.in_default-right-2-own.rest.0.1, ne_eqb _ 2 c.in_default-right-2.in_default-right-2-own.rest.1)

pub returns-in-2-right-2 : goal.returns-in-2-right-2
unfolding dyadic_kind choose
returns-in-2-right-2 c = c.sets_kind.ensures ∙ rw (c.in-2.is, c.in-2-right-2.is)

pub returns-in_default-right-3 : goal.returns-in_default-right-3
unfolding dyadic_kind choose
returns-in_default-right-3 c = rw (c.in-2.is, ne_eqb _ 2 c.in_default-right-3.in_default-right-3-own.rest.1)

pub returns-in_default : goal.returns-in_default
unfolding dyadic_kind choose
returns-in_default c = let m = c.in_default.in_default-own.rest in rw (ne_eqb _ 0 m.0.0.1, ne_eqb _ 1 m.0.1, ne_eqb _ 2 m.1)
