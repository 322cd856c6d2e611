-- The rule of a type row with its own fields.
use Rattle.std.specs.Prelude.{ℕ, zero, suc, ◌+◌, Bool, true, false, List, ltb, leb, eqb}
use Rattle.prelude.specs.Choice.{choose, ◌also◌}
use Rattle.image.specs.declared.Row.{Row}
use Rattle.image.specs.Rows.{row_at, rows_of}
use Rattle.image.specs.Faults.{all_from}
use Rattle.image.specs.Versions.{scalar_rows}
use Rattle.shapes.specs.Forms.{form, count_of}
use Rattle.shapes.specs.Sizes.{size_of}

-- "Records use up the field rows in order without gaps": the next unused field row, once the rows below r have theirs
unfoldable pub used_below : List ℕ → ℕ → ℕ
used_below t zero = 0
used_below t (suc r) = used_below t r + count_of (form t r)

-- "Rows 0, 1, 2 are kinds 0 BOOLEAN, 1 INTEGER, 2 SET." "A number without a use below is 0."
unfoldable pub scalar_kept : ℕ → Row → Bool
scalar_kept r row = eqb row.kind r also eqb row.a 0 also eqb row.b 0 also eqb row.c 0

-- "array (a element type, b length 1 to 4,096)"; "Base, element and field types stand in lower rows"
unfoldable pub array_kept : ℕ → Row → Bool
array_kept r row = ltb row.a r also leb 1 row.b also leb row.b 4096 also eqb row.c 0

-- "A field row has kind 0 and type a"; field row k of a record in row r
unfoldable pub field_kept : List ℕ → ℕ → ℕ → Bool
field_kept f r k =
    eqb (row_at f k).kind 0
    also eqb (row_at f k).zero 0
    also ltb (row_at f k).a r
    also eqb (row_at f k).b 0
    also eqb (row_at f k).c 0

-- "a base is a record", in a lower row; 0 where there is none
unfoldable pub base_kept : List ℕ → ℕ → ℕ → Bool
base_kept t r zero = true
base_kept t r (suc b) = ltb b r also eqb (row_at t b).kind 4

-- "b is the next unused row even when c is 0"; the own fields exist and keep their rule
unfoldable pub record_kept : List ℕ → List ℕ → ℕ → ℕ → Row → Bool
record_kept t f used r row =
    base_kept t r row.a
    also eqb row.b used
    also leb (used + row.c) (rows_of f)
    also all_from (field_kept f r) used row.c

-- a later row of another kind than 3 and 4 keeps no rule
unfoldable pub later_kept : List ℕ → List ℕ → ℕ → ℕ → Row → Bool
later_kept t f used r row =
    choose (eqb row.kind 3) (array_kept r row) (choose (eqb row.kind 4) (record_kept t f used r row) false)

-- a type row in its table, where `used` field rows are claimed by the rows below it; "a zero byte"
unfoldable pub shape_kept : ℕ → List ℕ → List ℕ → ℕ → ℕ → Row → Bool
shape_kept version t f used r row =
    eqb row.zero 0 also choose (ltb r (scalar_rows version)) (scalar_kept r row) (later_kept t f used r row)

-- "No size exceeds 4,096."
unfoldable pub type_kept : ℕ → List ℕ → List ℕ → ℕ → Bool
type_kept version t f r = shape_kept version t f (used_below t r) r (row_at t r) also leb (size_of t f r) 4096
