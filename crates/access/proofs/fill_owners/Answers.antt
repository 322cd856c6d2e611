use mathlib.Core.Path.{◌≡◌, refl, ◌∙◌}
use Prim.Native.Nat.{suc, ◌+◌, ◌≤◌}
use native.Mathlib.Omega.{arith}
use Rattle.prelude.proofs.Cells.{filled_none, filled_next}
use Rattle.sizes.specs.Cells.{OWNERS}
use Rattle.statements.proofs.Scanning.{procedure_first, procedure_next, procedure_few}
use Rattle.access.proofs.fill_owners.Goals as goal
use Rattle.access.proofs.fill_owners.Goals.{In-loop-r}

pub loop-r-init : goal.loop-r-init
loop-r-init c = (procedure_first _, filled_none _ _ _)

-- the row's procedure is small
small : (c : In-loop-r) → c.loop-r.q ≤ 1024
small c = let few = procedure_few c.args.p.now c.loop-r.r in
    let test = c.loop-r-test.true in
    omega (arith, c.loop-r.invariant.0, few, c.requires.0)

pub overflow_cast-plan : goal.overflow_cast-plan
overflow_cast-plan c = omega (arith, small c)

pub next_procedure-q-requires : goal.next_procedure-q-requires
next_procedure-q-requires c = omega (arith, small c)

pub loop-r-preserved : goal.loop-r-preserved
loop-r-preserved c = let l = c.loop-r in
    let test = c.loop-r-test.true in
    let one : suc l.r ≡ l.r + 1 = omega arith in
    let filled = filled_next OWNERS l.r _ _ _ _ _ l.invariant.1 refl
    (omega (arith, l.invariant.1.cells, c.requires)) l.invariant.0 in
    (c.next_procedure-q.ensures ∙ procedure_next _ _ _ l.invariant.0, rw one at filled)
