-- The field of a number, with its place and type.
use Rattle.relations.specs.declared.FieldAt.{FieldAt}
use Rattle.std.specs.Prelude.{Option, Some, None, ℕ, ◌+◌, ◌-◌, List, ltb, length, get_or}
use Rattle.prelude.specs.Choice.{choose}
use Rattle.prelude.specs.Rec.{rec}
use Rattle.image.specs.Rows.{row_at}
use Rattle.shapes.specs.Forms.{Form, Form.scalar, Form.array, Form.record_of, Form.no_form, form, of_base}
use Rattle.shapes.specs.Sizes.{fields_of, offset_of}
use Rattle.sizes.specs.Cells.{INHERITED, OFFSETS}

-- a field that begins so many cells into its record, of a type
abbrev pub field_at : ℕ → ℕ → FieldAt
field_at offset declared = record { offset = offset; declared = declared }

-- "2 field b (base's fields counted first) of a"; "A field exists": field n of type r, where it begins and its type
unfoldable pub field_of : List ℕ → List ℕ → ℕ → ℕ → Option FieldAt
field_of t f r n =
    choose (ltb n (length (fields_of t f r))) (Some (field_at (offset_of t f r n) (get_or (fields_of t f r) n 0))) None

-- own field j of a record, as a plan has it, whatever it holds
unfoldable pub planned_own : List ℕ → List ℕ → ℕ → ℕ → ℕ → Option FieldAt
planned_own f plan first count j =
    choose (ltb j count) (Some (field_at (get_or plan (OFFSETS + (first + j)) 0) (row_at f (first + j)).a)) None

-- field n of type r in a plan: up the bases, to the record that has it of its own
unfoldable pub planned_by : List ℕ → List ℕ → ℕ → (ℕ → Option FieldAt) → ℕ → Form → Option FieldAt
planned_by f plan n above r (scalar kind) = None
planned_by f plan n above r (array element m) = None
planned_by f plan n above r (record_of base first count) =
    choose (ltb n (get_or plan (INHERITED + r) 0)) (of_base None above base)
    (planned_own f plan first count (n - get_or plan (INHERITED + r) 0))
planned_by f plan n above r no_form = None

unfoldable pub planned_field : List ℕ → List ℕ → List ℕ → ℕ → ℕ → Option FieldAt
planned_field t f plan n = rec None (λ above r. planned_by f plan n above r (form t r))
