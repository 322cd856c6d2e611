use Rattle.prelude.specs.Choice.{choose}
use Rattle.semantics.proofs.Demand3.{program_accepted}
use Rattle.access.specs.Ready.{table_of}
use Rattle.access.proofs.fill_nodes.Goals as goal

pub fill-requires : goal.fill-requires
unfolding table_of choose
fill-requires c = let checked = c.requires.0 in
    let ok = program_accepted _ checked.accepted in
    let types = c.table-t.ensures in
    let nodes = c.table-n.ensures in
    rw (types, c.table-f.ensures, nodes)
    (ok.questions.types, c.requires.1, ok.counts.types, ok.counts.fields, ok.counts.nodes, checked.cells)

pub returns : goal.returns
unfolding table_of choose
returns c = rw (c.table-t.ensures, c.table-f.ensures, c.table-v.ensures, c.table-n.ensures)
    at c.fill.ensures
