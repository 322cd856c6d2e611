use Rattle.names.proofs.Naming.{node_named}
use Rattle.names.proofs.name_node.Goals as goal

pub returns : goal.returns
returns c =
    let first = c.node_names_a.ensures in
    let second = c.node_names_b.ensures in
    node_named _ first second c.name.ensures c.name-2.ensures
