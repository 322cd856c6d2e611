-- One number for each node: the type of the object that it designates, and of a field where it begins in which record.
use Rattle.relations.specs.declared.FieldAt.{FieldAt}
use Rattle.std.specs.Prelude.{Option, Some, None, ℕ, ◌+◌, ◌*◌, ◌/◌, ◌%◌, List, eqb, ltb}
use Rattle.prelude.specs.Choice.{choose}
use Rattle.prelude.specs.Rec.{rec}
use Rattle.image.specs.declared.Row.{Row}
use Rattle.image.specs.Rows.{row_at}
use Rattle.relations.specs.Fields.{field_of}

-- the cell of a node that designates nothing, or whose numbers have no room
abbrev pub UNKNOWN : ℕ
UNKNOWN = 65535

-- where the field begins
abbrev pub offset_in : ℕ → ℕ
offset_in cell = cell / 65536

-- the type
abbrev pub type_in : ℕ → ℕ
type_in cell = cell / 256 % 256

-- the record that the field is in; 255 where there is none
abbrev pub record_in : ℕ → ℕ
record_in cell = cell % 256

-- a field of record d
unfoldable pub field_cell : ℕ → Option FieldAt → ℕ
field_cell d None = UNKNOWN
field_cell d (Some x) =
    choose (ltb 65535 x.offset) UNKNOWN
    (choose (ltb 254 x.declared) UNKNOWN
    (choose (ltb 254 d) UNKNOWN (x.offset * 65536 + x.declared * 256 + d)))

-- any other designator, of type r
unfoldable pub typed_cell : ℕ → ℕ
typed_cell r = choose (ltb 254 r) UNKNOWN (r * 256 + 255)

-- by the kind, from the cells of lower rows
unfoldable pub cell_by : List ℕ → List ℕ → List ℕ → (ℕ → ℕ) → ℕ → Row → ℕ
cell_by t f v cell kind row =
    choose (eqb kind 1) (typed_cell (row_at v row.a).a)
    (choose (eqb kind 2) (field_cell (type_in (cell row.a)) (field_of t f (type_in (cell row.a)) row.b))
    (choose (eqb kind 3) (typed_cell (row_at t (type_in (cell row.a))).a)
    (choose (eqb kind 4) (typed_cell row.b) UNKNOWN)))

-- the cell of node row r
unfoldable pub cell_of : List ℕ → List ℕ → List ℕ → List ℕ → ℕ → ℕ
cell_of t f v n = rec UNKNOWN (λ cell r. cell_by t f v cell (row_at n r).kind (row_at n r))
