use Prim.Native.Nat.{◌-◌}
use native.Mathlib.Omega.{arith}
use Rattle.statements.proofs.Running.{argument_run_few, written_none, written_next}
use Rattle.statements.proofs.fill_runs.Goals as goal

pub loop-i-init : goal.loop-i-init
loop-i-init c = rw c.rows_of-nodes.ensures (written_none _ _)

pub next_run-run-requires : goal.next_run-run-requires
next_run-run-requires c = let l = c.loop-i in
    let few = argument_run_few c.args.n.now l.i in
    omega (arith, c.requires.0, l.invariant.here)

pub loop-i-preserved : goal.loop-i-preserved
loop-i-preserved c = let l = c.loop-i in
    let within = l.invariant.within in
    let cells = l.invariant.cells in
    written_next _ _ l.runs l.i (l.i - 1) l.run _ l.invariant (omega arith) (omega (arith, c.requires.1))
    c.next_run-run.ensures
