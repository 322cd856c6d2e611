use mathlib.Core.Path.{◌∙◌}
use borrow.Author.Tests.{lt-leb}
use Rattle.prelude.specs.Choice.{choose}
use Rattle.semantics.specs.Running.{program_of}
use Rattle.access.specs.Ready.{table_of}
use Rattle.access.proofs.Bounds.{variable_typed}
use Rattle.referents.proofs.Scanning.{variable_other, variable_plain, variable_low}
use Rattle.referents.proofs.in_variable.Goals as goal

pub returns-else-row-le2 : goal.returns-else-row-le2
returns-else-row-le2 c = lt-leb _ _ c.if-row-le2.false ∙ variable_other (program_of c.args.loaded.now.image.now) _ _ _ c.variable_at-row.ensures c.if-row-le2.false

pub holds-requires : goal.holds-requires
unfolding table_of choose
holds-requires c =
    let l = c.requires.0 in
    let row = c.variable_at-row.ensures in
    rw (c.table-f.ensures, c.table-t.ensures)
    (l.typed, l.edges, c.requires.1, variable_low _ _ row (variable_typed l.planned _ c.requires.2))

pub returns-then-row-le2 : goal.returns-then-row-le2
unfolding table_of choose
returns-then-row-le2 c =
    let held = rw (c.table-f.ensures, c.table-t.ensures)
    at c.holds.ensures in
    variable_plain (program_of c.args.loaded.now.image.now) _ _ _ c.variable_at-row.ensures
    c.if-row-le2.true held
