use mathlib.Core.Path.{sym, ◌∙◌}
use Rattle.prelude.specs.Choice.{choose}
use Rattle.access.specs.Ready.{table_of}
use Rattle.resuming.proofs.Testing.{test_reference, test_value, inside_value}
use Rattle.resuming.proofs.Passing.{readable_of}
use Rattle.resuming.proofs.Values.variable_holds.Goals as goal

pub returns-then-row-eq3 : goal.returns-then-row-eq3
returns-then-row-eq3 c = sym (test_reference _ _ _ (rw c.variable_at-row.ensures at c.if-row-eq3.true))

pub holds_values-requires : goal.holds_values-requires
unfolding table_of choose
holds_values-requires c =
    let row = c.variable_at-row.ensures in
    rw (c.table-f.ensures, c.table-t.ensures, row) (
      (readable_of c.args.self.now.loaded.planned c.args.self.now.evens c.args.self.now.most).readable,
      inside_value c.args.self.now.loaded.planned _ _ c.requires.0 (rw row at c.if-row-eq3.false) c.requires.1,
    )

pub returns : goal.returns
unfolding table_of choose
returns c =
    let row = c.variable_at-row.ensures in
    c.holds_values.ensures
    ∙ rw (c.table-f.ensures, c.table-t.ensures, row)
    (sym (test_value _ _ _ (rw row at c.if-row-eq3.false)))
