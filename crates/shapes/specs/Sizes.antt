-- Size, layout and fields of a type. A row's are made from those of lower rows.
use Rattle.std.specs.Prelude.{ℕ, ◌+◌, ◌*◌, List, [], ◌∷◌, ◌++◌, map, take, replicate}
use Rattle.prelude.specs.Parts.{joined, sum}
use Rattle.prelude.specs.Rec.{rec}
use Rattle.shapes.specs.Forms.{Form, Form.scalar, Form.array, Form.record_of, Form.no_form, form, of_base}
use Rattle.shapes.specs.Forms.{own_types}

-- "Size: scalar 1; array length times element; record base plus own fields, base first."
unfoldable pub size_by : List ℕ → (ℕ → ℕ) → Form → ℕ
size_by f size (scalar kind) = 1
size_by f size (array element n) = n * size element
size_by f size (record_of base first count) = of_base 0 size base + sum (map size (own_types f first count))
size_by f size no_form = 0

unfoldable pub size_of : List ℕ → List ℕ → ℕ → ℕ
size_of t f = rec 0 (λ size r. size_by f size (form t r))

-- "A type's layout is its list of scalar kinds in that order."
unfoldable pub layout_by : List ℕ → (ℕ → List ℕ) → Form → List ℕ
layout_by f layout (scalar kind) = kind ∷ []
layout_by f layout (array element n) = joined (replicate n (layout element))
layout_by f layout (record_of base first count) = of_base [] layout base ++ joined (map layout (own_types f first count))
layout_by f layout no_form = []

unfoldable pub layout_of : List ℕ → List ℕ → ℕ → List ℕ
layout_of t f = rec [] (λ layout r. layout_by f layout (form t r))

-- the types of a record's fields, "base's fields counted first"
unfoldable pub fields_by : List ℕ → (ℕ → List ℕ) → Form → List ℕ
fields_by f fields (scalar kind) = []
fields_by f fields (array element n) = []
fields_by f fields (record_of base first count) = of_base [] fields base ++ own_types f first count
fields_by f fields no_form = []

unfoldable pub fields_of : List ℕ → List ℕ → ℕ → List ℕ
fields_of t f = rec [] (λ fields r. fields_by f fields (form t r))

-- where field n of a record begins: behind the fields before it
unfoldable pub offset_of : List ℕ → List ℕ → ℕ → ℕ → ℕ
offset_of t f r n = sum (map (size_of t f) (take n (fields_of t f r)))
