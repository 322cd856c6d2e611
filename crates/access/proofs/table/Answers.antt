use native.Mathlib.Omega.{arith}
use Rattle.access.proofs.Tables.{table_stands, table_small}
use Rattle.access.proofs.table.Goals as goal

pub overflow_cast-start : goal.overflow_cast-start
overflow_cast-start c = omega (arith, (table_stands c.requires.0 _ c.requires.1).ordered, table_small c.requires.0 _ c.requires.1)

pub overflow_cast-end : goal.overflow_cast-end
overflow_cast-end c = omega (arith, table_small c.requires.0 _ c.requires.1)

pub slice_bounds-result-count : goal.slice_bounds-result-count
slice_bounds-result-count c = (table_stands c.requires.0 _ c.requires.1).ordered

pub slice_bounds-result-start : goal.slice_bounds-result-start
slice_bounds-result-start c = (table_stands c.requires.0 _ c.requires.1).ordered

pub slice_bounds-result-end : goal.slice_bounds-result-end
slice_bounds-result-end c = (table_stands c.requires.0 _ c.requires.1).within

pub returns : goal.returns
returns c = (table_stands c.requires.0 _ c.requires.1).part
