use native.Mathlib.Omega.{arith}
use Rattle.prelude.specs.Choice.{choose}
use Rattle.kinds.specs.Kinds.{booleans_kind}
use Rattle.values.proofs.Numbers.{inside, under, over}
use Rattle.kinds.proofs.booleans_kind.Goals as goal

-- `kinds::booleans_kind` meets its contract: by the operator number and its ranges.
pub returns-in-7-to-8 : goal.returns-in-7-to-8
unfolding booleans_kind choose
returns-in-7-to-8 c = rw (inside 7 8 _ c.in-7-to-8.if-op-lt7-own.false c.in-7-to-8.if-op-lt9-own.true)

pub returns-in-13-to-14 : goal.returns-in-13-to-14
unfolding booleans_kind choose
returns-in-13-to-14 c = rw (over 7 8 _ c.in-13-to-14.if-op-lt9-own.false, inside 13 14 _ c.in-13-to-14.if-op-lt13-own.false c.in-13-to-14.if-op-lt15-own.true)

pub returns-in_default : goal.returns-in_default
unfolding booleans_kind choose
returns-in_default c =
    let op = c.args.op in
    rw (under 7 8 op c.in_default.if-op-lt7-own.true, under 13 14 op (omega arith))

pub returns-in_default-2 : goal.returns-in_default-2
unfolding booleans_kind choose
returns-in_default-2 c = rw (over 7 8 _ c.in_default.if-op-lt9-own.false, under 13 14 _ c.in_default.if-op-lt13-own.true)

pub returns-in_default-3 : goal.returns-in_default-3
unfolding booleans_kind choose
returns-in_default-3 c = rw (over 7 8 _ c.in_default.if-op-lt9-own.false, over 13 14 _ c.in_default.if-op-lt15-own.false)
