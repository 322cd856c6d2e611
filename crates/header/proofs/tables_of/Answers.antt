use mathlib.Core.Path.{sym}
use borrow.Author.Tests.{eq-eqb, ne_eqb}
use Rattle.prelude.specs.Choice.{choose}
use Rattle.header.specs.Header.{then_table, tables_of}
use Rattle.header.proofs.Fitting.{found_within}
use Rattle.header.proofs.tables_of.Goals as goal

pub table_from-requires-2 : goal.table_from-requires-2
table_from-requires-2 c = found_within _ _ _ _ (sym c.in_ok-types.ensures)

pub table_from-requires-3 : goal.table_from-requires-3
table_from-requires-3 c = found_within _ _ _ _ (sym c.in_ok-fields.ensures)

pub table_from-requires-4 : goal.table_from-requires-4
table_from-requires-4 c = found_within _ _ _ _ (sym c.in_ok-variables.ensures)

pub table_from-requires-5 : goal.table_from-requires-5
table_from-requires-5 c = found_within _ _ _ _ (sym c.in_ok-procedures.ensures)

pub table_from-requires-6 : goal.table_from-requires-6
table_from-requires-6 c = found_within _ _ _ _ (sym c.in_ok-nodes.ensures)

pub returns-then-statements-image : goal.returns-then-statements-image
unfolding tables_of then_table choose
returns-then-statements-image c =
    rw (
      ← c.requires.0,
      ← c.scalar_rows-scalars.ensures,
      ← c.in_ok-types.ensures,
      ← c.in_ok-fields.ensures,
      ← c.in_ok-variables.ensures,
      ← c.in_ok-procedures.ensures,
      ← c.in_ok-nodes.ensures,
      ← c.in_ok-statements.ensures,
      ne_eqb _ _ c.if-statements-image.true,
    )

pub returns : goal.returns
unfolding tables_of then_table choose
returns c =
    rw (
      ← c.requires.0,
      ← c.scalar_rows-scalars.ensures,
      ← c.in_ok-types.ensures,
      ← c.in_ok-fields.ensures,
      ← c.in_ok-variables.ensures,
      ← c.in_ok-procedures.ensures,
      ← c.in_ok-nodes.ensures,
      ← c.in_ok-statements.ensures,
      eq-eqb _ _ c.if-statements-image.false,
    )
