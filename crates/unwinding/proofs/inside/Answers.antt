use mathlib.Core.Path.{sym, ◌∙◌}
use Prim.Native.Nat.{◌<◌}
use native.Mathlib.Omega.{arith}
use borrow.Author.Tests.{le-ltb}
use Rattle.prelude.specs.Choice.{choose}
use Rattle.image.specs.Rows.{rows_of}
use Rattle.semantics.specs.Running.{program_of}
use Rattle.access.specs.Ready.{table_of}
use Rattle.unwinding.proofs.Bodies.{inside_missing, inside_owner}
use Rattle.unwinding.proofs.inside.Goals as goal
use Rattle.unwinding.proofs.inside.Goals.{Then-r-rows_of}

-- where there is a row r
there : (c : Then-r-rows_of) → c.args.r < rows_of (program_of c.args.loaded.now.image.now).statements
unfolding table_of choose
there c = rw (rw c.table.ensures at c.rows_of.ensures) at c.if-r-rows_of.true

pub procedure_of-requires : goal.procedure_of-requires
procedure_of-requires c = (there c, c.requires)

pub returns-then-r-rows_of : goal.returns-then-r-rows_of
returns-then-r-rows_of c =
    inside_owner c.args.loaded.now.planned _ _ _ (there (goal.at.returns-then-r-rows_of c).Then-r-rows_of) c.procedure_of.ensures

pub returns-else-r-rows_of : goal.returns-else-r-rows_of
unfolding table_of choose
returns-else-r-rows_of c =
    let rows = rw c.table.ensures at c.rows_of.ensures in
    le-ltb _ _ (omega (arith, c.if-r-rows_of.false))
    ∙ sym (inside_missing c.args.loaded.now.planned _ _ (omega (arith, c.if-r-rows_of.false)))
