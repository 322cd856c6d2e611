use native.Mathlib.Omega.{arith}
use Rattle.names.proofs.Naming.{rows_named}
use Rattle.names.proofs.name_rows.Goals as goal

pub returns : goal.returns
returns c = let l = c.loop-node in
    rows_named _ _ _ _ _ _ c.min.ensures c.min-end.ensures l.auto.node-items (λ j h. l.invariant.0 j (omega arith))
