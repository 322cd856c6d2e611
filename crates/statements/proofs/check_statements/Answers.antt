use Rattle.statements.proofs.Running.{runs_all}
use Rattle.statements.proofs.check_statements.Goals as goal

pub scan_statements-requires : goal.scan_statements-requires
scan_statements-requires c =
    let nodes = c.rows_of-nodes.ensures in
    let pre = c.requires in
    (pre.1, rw nodes (runs_all _ _ _ c.fill_runs.ensures pre.2))
