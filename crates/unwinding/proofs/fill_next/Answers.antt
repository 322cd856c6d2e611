use mathlib.Core.Path.{◌≡◌}
use Prim.Native.Nat.{◌≤◌}
use native.Mathlib.Omega.{arith}
use Rattle.access.proofs.Bounds.{variables_few}
use Rattle.image.specs.Rows.{rows_of}
use Rattle.semantics.specs.Running.{program_of}
use Rattle.unwinding.proofs.Next.{rows_are, down_start, down_next, down_end}
use Rattle.unwinding.proofs.fill_next.Goals as goal
use Rattle.unwinding.proofs.fill_next.Goals.{After-rows_of-rows}

-- how many rows there are
few : (c : After-rows_of-rows) → (c.rows_of-rows.result ≡ rows_of (program_of c.args.loaded.now.image.now).variables)
    × (c.rows_of-rows.result ≤ 256)
few c = let rows = rows_are _ c.table.ensures c.rows_of-rows.ensures in
    (rows, omega (arith, rows, variables_few c.args.loaded.now.planned))

pub overflow_cast-first : goal.overflow_cast-first
overflow_cast-first c = omega (arith, (few c).1)

pub offset_bounds-next-rows : goal.offset_bounds-next-rows
offset_bounds-next-rows c = omega (arith, (few c).1)

pub bounds-next-rows : goal.bounds-next-rows
bounds-next-rows c = omega (arith, (few c).1, c.requires)

pub loop-i-init : goal.loop-i-init
loop-i-init c = let rows = few (goal.at.loop-i-init c).After-rows_of-rows in
    down_start _ _ rows.0 (omega (arith, rows, c.requires))

pub overflow_cast-i : goal.overflow_cast-i
overflow_cast-i c = omega (arith, c.loop-i.invariant.low, variables_few c.args.loaded.now.planned)

pub first_or-first-requires : goal.first_or-first-requires
first_or-first-requires c = omega (arith, c.loop-i.invariant.low, c.loop-i-test.true)

pub offset_bounds-next-i : goal.offset_bounds-next-i
offset_bounds-next-i c = omega (arith, c.loop-i.invariant.low, variables_few c.args.loaded.now.planned)

pub bounds-next-i : goal.bounds-next-i
bounds-next-i c = let inv = c.loop-i.invariant in
    omega (arith, inv.low, inv.filled.cells, variables_few c.args.loaded.now.planned, c.requires, c.loop-i-test.true)

pub loop-i-preserved : goal.loop-i-preserved
loop-i-preserved c = down_next _ c.loop-i.invariant
    (omega (arith, variables_few c.args.loaded.now.planned, c.requires))
    (omega (arith, c.loop-i-test.true)) c.first_or-first.ensures

pub returns : goal.returns
returns c = down_end _ c.loop-i.invariant (omega (arith, few (goal.at.returns c).After-rows_of-rows, c.requires)) (omega (arith, c.loop-i-test.false))
