use Rattle.prelude.specs.Choice.{choose}
use borrow.Author.Tests.{le-ltb, lt-ltb}
use Rattle.relations.specs.Fields.{planned_own}
use Rattle.relations.proofs.own_field.Goals as goal

pub returns-then-c-j : goal.returns-then-c-j
unfolding planned_own choose
returns-then-c-j c = rw (le-ltb _ _ c.if-c-j.true)

pub returns : goal.returns
unfolding planned_own choose
returns c = rw (lt-ltb _ _ c.if-c-j.false, ← c.cell.ensures, ← c.row_at.ensures)
