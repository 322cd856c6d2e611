-- What a row of the types table is.
use Rattle.std.specs.Prelude.{ℕ, zero, suc, ◌+◌, Bool, not, List, [], ◌∷◌, leb, eqb}
use Rattle.prelude.specs.Choice.{choose}
use Rattle.image.specs.declared.Row.{Row}
use Rattle.image.specs.Rows.{row_at}

-- "Rows 0, 1, 2 are kinds 0 BOOLEAN, 1 INTEGER, 2 SET. Later rows are kind 3, array (a element type, b length 1 to 4,096),
-- or kind 4, record (a is 0 or base row plus 1, b first own field row, c own field count)."
pub data Form : Type 0 where
  scalar : ℕ → Form
  array : ℕ → ℕ → Form
  record_of : ℕ → ℕ → ℕ → Form
  no_form : Form

unfoldable pub form_of : Row → Form
form_of r =
    choose (leb r.kind 2) (scalar r.kind)
    (choose (eqb r.kind 3) (array r.a r.b)
    (choose (eqb r.kind 4) (record_of r.a r.b r.c) no_form))

-- the form of type row r of the table t
unfoldable pub form : List ℕ → ℕ → Form
form t r = form_of (row_at t r)

-- 0, or a record's base row plus 1
unfoldable pub base_of : Form → ℕ
base_of (scalar kind) = 0
base_of (array element n) = 0
base_of (record_of base first count) = base
base_of no_form = 0

-- how many field rows a type claims
unfoldable pub count_of : Form → ℕ
count_of (scalar kind) = 0
count_of (array element n) = 0
count_of (record_of base first count) = count
count_of no_form = 0

-- "A type's layout is its list of scalar kinds": the kind of a scalar's one cell; an array or a record has none
abbrev pub NO_KIND : ℕ
NO_KIND = 255

unfoldable pub kind_by : Form → ℕ
kind_by (scalar kind) = kind
kind_by (array element n) = NO_KIND
kind_by (record_of base first count) = NO_KIND
kind_by no_form = NO_KIND

-- of type row r of the table t
unfoldable pub kind_in : List ℕ → ℕ → ℕ
kind_in t r = kind_by (form t r)

-- an object of type row r is a single cell with a value of that kind
unfoldable pub is_single : List ℕ → ℕ → Bool
is_single t r = not (eqb (kind_in t r) NO_KIND)

-- what a record takes over from its base: `none` where it has no base
unfoldable pub of_base : {X : Type 0} → X → (ℕ → X) → ℕ → X
of_base none g zero = none
of_base none g (suc b) = g b

-- "A field row has kind 0 and type a": the types of n field rows from row k on
unfoldable pub own_types : List ℕ → ℕ → ℕ → List ℕ
own_types f k zero = []
own_types f k (suc n) = (row_at f k).a ∷ own_types f (k + 1) n
