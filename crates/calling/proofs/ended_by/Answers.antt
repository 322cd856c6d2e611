use mathlib.Core.Path.{◌≡◌}
use Rattle.values.specs.declared.Stop.TheVariants as St
use Rattle.calling.specs.Passing.{ended_by}
use Rattle.calling.proofs.ended_by.Goals as goal

pub returns-in-Ok : goal.returns-in-Ok
unfolding ended_by
returns-in-Ok c = rw c.in-Ok.is

pub returns-in-Err-Trap : goal.returns-in-Err-Trap
unfolding ended_by
returns-in-Err-Trap c =
    let m = c.in-Err-Trap in
    let e : m.field-0 ≡ St.Trap m.t = rw m.is at m.field-0-is in
    rw (m.is, e)

pub returns-in-Err-Stuck : goal.returns-in-Err-Stuck
unfolding ended_by
returns-in-Err-Stuck c =
    let m = c.in-Err-Stuck in
    let e : m.field-0 ≡ St.Stuck = rw m.is at m.field-0-is in
    rw (m.is, e)
