use native.Mathlib.Omega.{arith}
use borrow.Author.Tests.{ne_eqb}
use Rattle.prelude.specs.Choice.{choose}
use Rattle.kinds.specs.Kinds.{sets_kind}
use Rattle.values.proofs.Numbers.{inside, under, over}
use Rattle.kinds.proofs.sets_kind.Goals as goal

-- `kinds::sets_kind` meets its contract: by the operator number and its ranges.
pub returns-in-6 : goal.returns-in-6
unfolding sets_kind choose
returns-in-6 c = rw c.in-6.is

pub returns-in-1-to-3 : goal.returns-in-1-to-3
unfolding sets_kind choose
returns-in-1-to-3 c = rw (inside 1 3 _ c.in-1-to-3.if-op-lt1-own.false c.in-1-to-3.if-op-lt4-own.true)

pub returns-in-7-to-8 : goal.returns-in-7-to-8
unfolding sets_kind choose
returns-in-7-to-8 c =
    let op = c.args.op in
    rw (over 1 3 op c.in-7-to-8.if-op-lt4-own.false, ne_eqb op 6 (omega arith))
    (rw (inside 7 8 op (omega arith) c.in-7-to-8.if-op-lt9-own.true))

pub returns-in_default : goal.returns-in_default
unfolding sets_kind choose
returns-in_default c =
    let op = c.args.op in
    rw (under 1 3 op c.in_default.if-op-lt1-own.true, ne_eqb op 6 (omega arith), under 7 8 op (omega arith))

pub returns-in_default-2 : goal.returns-in_default-2
unfolding sets_kind choose
returns-in_default-2 c =
    let op = c.args.op in
    rw (over 1 3 op c.in_default.if-op-lt4-own.false, ne_eqb op 6 c.in_default.in_default-own.rest.1)
    (rw (under 7 8 op (omega arith)))

pub returns-in_default-3 : goal.returns-in_default-3
unfolding sets_kind choose
returns-in_default-3 c =
    let op = c.args.op in
    rw (over 1 3 op c.in_default.if-op-lt4-own.false, ne_eqb op 6 (omega arith), over 7 8 op c.in_default.if-op-lt9-own.false)
