use mathlib.Core.Path.{◌≡◌, ◌∙◌}
use borrow.Author.Tests.{ne_eqb, eq-eqb}
use Rattle.prelude.specs.Choice.{choose}
use Rattle.values.specs.declared.Stop.TheVariants as St
use Rattle.cases_values.specs.Cases.{agrees as agrees_of}
use Rattle.cases_values.proofs.Laws.{result_same}
use Rattle.cases_values.proofs.agrees.Goals as goal

pub returns-in-Ok : goal.returns-in-Ok
unfolding agrees_of
returns-in-Ok c = c.eq.ensures ∙ rw (c.in-Ok.is, c.operand_at.ensures) (result_same _ _)

pub returns-then-s-eq3 : goal.returns-then-s-eq3
unfolding agrees_of choose
returns-then-s-eq3 c =
    let m = c.in-Err-Trap in
    let e : m.field-0 ≡ St.Trap m.t = rw m.is at m.field-0-is in
    rw (c.half_at.ensures, c.trap_number.ensures, m.is, e, eq-eqb _ 3 c.if-s-eq3.true)

pub returns-else-s-eq3 : goal.returns-else-s-eq3
unfolding agrees_of choose
returns-else-s-eq3 c =
    let m = c.in-Err-Trap in
    let e : m.field-0 ≡ St.Trap m.t = rw m.is at m.field-0-is in
    rw (m.is, e, ne_eqb _ 3 c.if-s-eq3.false)

pub returns-in-Err-Stuck : goal.returns-in-Err-Stuck
unfolding agrees_of
returns-in-Err-Stuck c =
    let m = c.in-Err-Stuck in
    let e : m.field-0 ≡ St.Stuck = rw m.is at m.field-0-is in
    rw (m.is, e)
