use native.Mathlib.Omega.{arith}
use Rattle.prelude.specs.Choice.{choose}
use Rattle.access.specs.Ready.{table_of}
use Rattle.referents.proofs.Lending.{typed_plan}
use Rattle.referents.proofs.references.Goals as goal

pub fill-requires : goal.fill-requires
unfolding table_of choose
fill-requires c =
    rw (c.table-f.ensures, c.table-t.ensures)
    (typed_plan c.args.loaded.now.planned, omega arith, omega arith)

pub invariant_of-state : goal.invariant_of-state
unfolding table_of choose
invariant_of-state c = record { edges = rw (c.table-f.ensures, c.table-t.ensures) at c.fill.ensures.all_edges }

pub all_references-requires : goal.all_references-requires
all_references-requires c = c.requires
