-- What the cells of a type are: all of one kind, none, or those of a row with several parts.
use Rattle.std.specs.Prelude.{ℕ, ◌+◌, List, [], ◌∷◌, map, ltb, eqb, ℤ, pos, negsuc}
use Rattle.prelude.specs.Choice.{choose}
use Rattle.prelude.specs.Rec.{rec}
use Rattle.shapes.specs.Forms.{Form, Form.scalar, Form.array, Form.record_of, Form.no_form, form, of_base, own_types}
use Rattle.values.specs.Values.{BOOLEAN, INTEGER}

-- ---- numbers for what cells are; below EMPTY it is the kind of them all

-- no cells
abbrev pub EMPTY : ℕ
EMPTY = 3

-- + s: the cells of type row s, which are of several kinds and in several parts
abbrev pub PARTS : ℕ
PARTS = 4

-- cells of several kinds
abbrev pub MIXED : ℕ
MIXED = 255

-- cells k and then cells j
unfoldable pub joint : ℕ → ℕ → ℕ
joint k j =
    choose (eqb k EMPTY) j (choose (eqb j EMPTY) k (choose (eqb k j) (choose (ltb k EMPTY) k MIXED) MIXED))

-- cells k and then these
unfoldable pub joint_from : ℕ → List ℕ → ℕ
joint_from k [] = k
joint_from k (j ∷ l) = joint_from (joint k j) l

-- n times cells k, which are those of type row r
unfoldable pub repeated : ℕ → ℕ → ℕ → ℕ
repeated r n k = choose (eqb n 1) k (choose (ltb k PARTS) k (PARTS + r))

-- cells k, which are those of type row r
unfoldable pub owned : ℕ → ℕ → ℕ
owned r k = choose (eqb k MIXED) (PARTS + r) k

-- the cells of type row r by what those of its element, or of its base and own fields, are
unfoldable pub even_by : List ℕ → (ℕ → ℕ) → ℕ → Form → ℕ
even_by f even r (scalar kind) = kind
even_by f even r (array element n) = repeated r n (even element)
even_by f even r (record_of base first count) =
    owned r (joint_from (of_base EMPTY even base) (map even (own_types f first count)))
even_by f even r no_form = EMPTY

unfoldable pub even_of : List ℕ → List ℕ → ℕ → ℕ
even_of t f = rec EMPTY (λ even r. even_by f even r (form t r))

-- ---- what a cell of a kind may hold

-- from this number: FALSE, "INTEGER is -2147483648 to 2147483647", the empty set
unfoldable pub lowest : ℕ → ℤ
lowest kind = choose (eqb kind INTEGER) (negsuc 2147483647) (pos 0)

-- to this one: TRUE, and 32 elements
unfoldable pub highest : ℕ → ℤ
highest kind = choose (eqb kind BOOLEAN) (pos 1) (choose (eqb kind INTEGER) (pos 2147483647) (pos 4294967295))
