use Rattle.names.specs.Names.{names_in}
use Rattle.names.proofs.Naming.{named_both, named_says}
use Rattle.names.proofs.count_names.Goals as goal

pub returns : goal.returns
unfolding names_in
returns c =
    let never = c.requires in
    named_says never (named_both c.name_nodes.ensures c.name_statements.ensures)
