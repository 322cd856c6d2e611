use mathlib.Core.Path.{sym, ◌∙◌, ap}
use Prim.Native.Nat.{◌<◌}
use native.Mathlib.Omega.{arith}
use Rattle.prelude.specs.Choice.{choose}
use Rattle.image.specs.Rows.{rows_of}
use Rattle.image.proofs.Bytes.{row_there}
use Rattle.designators.specs.Designators.{record_in}
use Rattle.designators.proofs.Designators.{field_cell_lem}
use Rattle.semantics.specs.Running.{program_of}
use Rattle.access.specs.Ready.{table_of}
use Rattle.access.proofs.Bounds.{nodes_few, types_few}
use Rattle.access.proofs.Loaded.field.Goals as goal
use Rattle.access.proofs.Loaded.field.Goals.{Start}

-- the node is there
there : (s : Start) → s.args.k < rows_of (program_of s.args.self.now.image.now).nodes
there s = row_there _ _ (omega (arith, s.requires.0))

pub bounds-plan-k : goal.bounds-plan-k
bounds-plan-k c = omega (arith, there (goal.at.bounds-plan-k c).Start, nodes_few c.args.self.now.planned)

pub returns-then-record_in-r : goal.returns-then-record_in-r
returns-then-record_in-r c = let here = c.args.self.now.planned.node _ (there (goal.at.returns-then-record_in-r c).Start) in
    let d = c.record_in.ensures in
    let is = sym (ap (λ cell. record_in cell) here) ∙ sym d ∙ c.if-record_in-r.true in
    let known = field_cell_lem _ _ _ _ _ _ c.requires.0 (omega (arith, c.requires.1, types_few c.args.self.now.planned)) is in
    rw (c.offset_in.ensures, c.type_in.ensures, here) (sym known)

pub returns : goal.returns
unfolding table_of choose
returns c =
    let types = c.table.ensures in
    let fields = c.table-2.ensures in
    rw (c.field.ensures, types, fields, c.node_at.ensures) (c.args.self.now.planned.checked.field _ _)
