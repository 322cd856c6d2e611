use native.Mathlib.Omega.{arith}
use mathlib.Core.List.{[]}
use Rattle.shapes.specs.Forms.{of_base}
use Rattle.shapes.specs.Sizes.{fields_of}
use Rattle.objects.proofs.Records.{own_low, own_few, base_few, base_room, base_cells_is}
use Rattle.objects.proofs.Deciding.{element_few}
use Rattle.objects.proofs.Filling.{at_none, at_array, at_base, at_record}
use Rattle.objects.proofs.part_edges.Goals as goal

pub bounds-tables-row : goal.bounds-tables-row
bounds-tables-row c = element_few c.requires.0 c.args.r c.requires.1 c.row_at-row.ensures c.in-3.is

pub bounds-tables-row-in-3 : goal.bounds-tables-row-in-3
bounds-tables-row-in-3 c = element_few c.requires.0 c.args.r c.requires.1 c.row_at-row.ensures c.in-3.is

pub returns-in-3 : goal.returns-in-3
returns-in-3 c = λ w edges.
    at_array c.requires.0 w c.args.r c.requires.1 c.row_at-row.ensures edges
    c.in-3.is

pub base_edges-base-requires : goal.base_edges-base-requires
base_edges-base-requires c = let row = c.row_at-row.ensures in
    base_few c.requires.0 c.args.r c.requires.1 (rw (← row) c.in-4.is) row

pub base_cells-before-requires : goal.base_cells-before-requires
base_cells-before-requires c = let row = c.row_at-row.ensures in
    base_room c.requires.0 c.args.r c.requires.1 (rw (← row) c.in-4.is) row

pub field_edges-requires : goal.field_edges-requires
field_edges-requires c = let row = c.row_at-row.ensures in
    own_few c.requires.0 c.args.r c.requires.1 (rw (← row) c.in-4.is) row

pub returns-in-4 : goal.returns-in-4
returns-in-4 c = let a = c.row_at-row.result.a in
    let row = c.row_at-row.ensures in
    let kind = c.in-4.is in
    let size = c.base_cells-before.ensures in
    let base = c.base_edges-base.ensures in
    λ w edges.
    at_record c.requires.0 w c.args.r c.requires.1 row edges kind
    (c.field_edges.ensures _ w c.args.r (of_base [] (fields_of c.args.t.now c.args.f.now) a) edges
    (own_low c.requires.0 c.args.r c.requires.1 (rw (← row) kind) row)
    (base_cells_is c.requires.0 c.args.r c.requires.1 (rw (← row) kind) row size)
    (at_base c.requires.0 w c.args.r c.requires.1 row edges kind size (base w).0 (base w).1))

pub returns-in_default : goal.returns-in_default
returns-in_default c = λ w edges.
    at_none c.requires.0 w c.args.r c.requires.1 c.row_at-row.ensures
    (λ e. omega arith) (λ e. omega arith)
