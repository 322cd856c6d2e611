use Rattle.image.specs.Faults.{KeptIn}
use Rattle.nodes.specs.Nodes.{node_kept}
use Rattle.nodes.proofs.check_nodes.Given as goal

abbrev pub invariant-loop-r : goal.invariant-loop-r
invariant-loop-r l = KeptIn (node_kept l.version l.types l.variables l.n) 0 l.r
