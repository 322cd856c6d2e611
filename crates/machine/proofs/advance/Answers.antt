use borrow.Enum.Refused.{opened}
use native.Mathlib.Omega.{arith}
use Rattle.machine.proofs.Along.{along_start, along_more, along_last, along_out, shows_going}
use Rattle.machine.proofs.advance.Goals as goal

pub loop-k-init : goal.loop-k-init
loop-k-init c = along_start _ _ _ _ _ _ c.requires.0 c.requires.1

pub step-next-requires : goal.step-next-requires
step-next-requires c = (c.loop-k.invariant.stands, c.requires.3)

pub returns-in_default : goal.returns-in_default
returns-in_default c =
    rw c.stop_by.ensures
    (along_last _ _ c.loop-k.invariant c.loop-k-test.true c.step-next.ensures
    (opened c.in_default.in_default-own.keys2) c.step-next.auto.store c.asked-asked.ensures
    c.max.ensures)

pub loop-k-preserved : goal.loop-k-preserved
loop-k-preserved c =
    let shown = shows_going (rw c.in-Goes.is at c.step-next.ensures) in
    rw c.max-mark.ensures
    (along_more _ _ c.loop-k.invariant c.loop-k-test.true shown.0 shown.1
    c.step-next.auto.store c.step-next.auto.output)

pub returns : goal.returns
returns c = rw c.ended.ensures (along_out _ _ c.loop-k.invariant (omega arith))
