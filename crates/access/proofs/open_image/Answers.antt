use Rattle.std.specs.Prelude.{Ok}
use mathlib.Core.Path.{◌≡◌, refl, sym, ◌∙◌, ap}
use native.Mathlib.Omega.{arith}
use Rattle.prelude.specs.Choice.{choose}
use Rattle.image.specs.Rows.{rows_of}
use Rattle.checker.specs.Check.{check_of}
use Rattle.checker.specs.Prepared.{Prepared}
use Rattle.semantics.specs.Running.{program_of}
use Rattle.semantics.proofs.Demand3.{program_accepted}
use Rattle.access.specs.Ready.{table_of, Checked}
use Rattle.access.proofs.Opening.{prepared_checked, prepared_typed, opened_no, opened_yes}
use Rattle.access.proofs.open_image.Goals as goal
use Rattle.access.proofs.open_image.Goals.{After-table-t, In-Ok}

-- the image is accepted ..
accepted : (c : In-Ok) → (check_of c.args.image.now ≡ Ok tt)
    × Prepared c.args.image.now c.args.plan.now (Ok tt) c.prepare-answer.new.plan
accepted c =
    let e = c.in-Ok.is in
    (sym c.prepare-answer.ensures.value ∙ e, rw e at c.prepare-answer.ensures.plan)

-- .. its plan is there ..
checked : (c : In-Ok) → Checked c.args.image.now c.prepare-answer.new.plan
checked c =
    let (check, left) = accepted c in
    prepared_checked _ _ _ _ c.requires check left refl (λ i h. refl)

-- .. and these are its procedures, its statements' rows and its types
tables : (c : After-table-t) → let program = program_of c.args.image.now in
    (c.table-p.result.now ≡ program.procedures) × (c.rows_of-n.result ≡ rows_of program.statements)
    × (c.table-t.result.now ≡ program.types)
unfolding table_of choose
tables c =
    (c.table-p.ensures, c.rows_of-n.ensures ∙ ap rows_of c.table.ensures, c.table-t.ensures)

pub returns-in_default : goal.returns-in_default
returns-in_default c = record { value = c.prepare-answer.ensures.value; plan = opened_no _ _ _ _ c.in_default.is c.prepare-answer.ensures.plan }

pub table-p-requires : goal.table-p-requires
table-p-requires c = (checked c, omega arith)

pub table-requires : goal.table-requires
table-requires c = (checked (goal.at.table-requires c).In-Ok, omega arith)

pub table-t-requires : goal.table-t-requires
table-t-requires c = (checked (goal.at.table-t-requires c).In-Ok, omega arith)

pub fill_owners-requires : goal.fill_owners-requires
fill_owners-requires c = let counts = (program_accepted _ (accepted (goal.at.fill_owners-requires c).In-Ok).0).counts in
    let (procedures, rows, types) = tables (goal.at.fill_owners-requires c).After-table-t in
    (omega (arith, rows, counts.statements), rw procedures counts.procedures, (checked (goal.at.fill_owners-requires c).In-Ok).cells)

pub fill_nodes-requires : goal.fill_nodes-requires
fill_nodes-requires c = let (check, left) = accepted (goal.at.fill_nodes-requires c).In-Ok in
    let owners = c.fill_owners.ensures in (
      prepared_checked _ _ _ _ c.requires check left owners.cells owners.below,
      prepared_typed _ _ _ _ c.requires check left owners.cells owners.below,
    )

pub fill-requires-2 : goal.fill-requires-2
fill-requires-2 c = let b = checked (goal.at.fill-requires-2 c).In-Ok in (
  omega arith,
  omega
      (arith, c.fill.ensures.cells, c.fill_nodes.ensures.cells, c.fill_owners.ensures.cells, b.cells),
)

pub shape_of-plan : goal.shape_of-plan
shape_of-plan c = c.fill-2.ensures.cells
    ∙ c.fill.ensures.cells
    ∙ c.fill_nodes.ensures.cells
    ∙ c.fill_owners.ensures.cells
    ∙ c.prepare-answer.auto.plan

pub returns : goal.returns
returns c = let (check, left) = accepted (goal.at.returns c).In-Ok in
    let (procedures, rows, types) = tables (goal.at.returns c).After-table-t in record {
      value = sym check;
      plan = opened_yes _ _ _ _ _ _ _ _ _ _ left procedures rows types c.fill_owners.ensures
          c.fill_nodes.ensures c.fill.ensures c.fill-2.ensures;
    }
