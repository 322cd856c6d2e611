-- Question 10: the type of a node.
use Rattle.relations.specs.declared.FieldAt.{FieldAt}
use Rattle.std.specs.Prelude.{Option, Some, None, Ok, Err}
use Rattle.image.specs.Faults.{Verdict, lowest_fault}
use Rattle.std.specs.Prelude.{ℕ, ◌≤◌, ◌<◌, ◌≡◌, Bool, true, false, List, ltb, eqb, length, get_or}
use Rattle.prelude.specs.Choice.{choose, ◌also◌}
use Rattle.prelude.specs.Rec.{rec}
use Rattle.image.specs.declared.Row.{Row}
use Rattle.image.specs.Rows.{row_at, rows_of}
use Rattle.relations.specs.Extends.{extends}
use Rattle.relations.specs.Fields.{field_of}
use Rattle.values.specs.Values.{BOOLEAN, INTEGER}
use Rattle.shapes.specs.Forms.{kind_in}
use Rattle.kinds.specs.Kinds.{dyadic_kind, monadic_kind}

-- A type is a row of the types table. A scalar's row is its kind, so that the kind that an operator gives is a type.

-- what follows from a child's type; no type where the child has none
unfoldable pub typed : Option ℕ → (ℕ → Option ℕ) → Option ℕ
typed None next = None
typed (Some r) next = next r

-- "1 variable a."
unfoldable pub variable_node : List ℕ → Row → Option ℕ
variable_node v row = Some (row_at v row.a).a

-- "A field exists": its type
unfoldable pub field_type : Option FieldAt → Option ℕ
field_type None = None
field_type (Some x) = Some x.declared

-- "2 field b .. of a."
unfoldable pub field_node : List ℕ → List ℕ → (ℕ → Option ℕ) → Row → Option ℕ
field_node t f type row = typed (type row.a) λ r. field_type (field_of t f r row.b)

-- "array (a element type, ..)"; "an index is INTEGER"
unfoldable pub element_type : Row → ℕ → Option ℕ
element_type array index = choose (eqb array.kind 3) (choose (eqb index INTEGER) (Some array.a) None) None

-- "3 element of a at b."
unfoldable pub element_node : List ℕ → (ℕ → Option ℕ) → Row → Option ℕ
element_node t type row = typed (type row.a) λ r. typed (type row.b) λ index. element_type (row_at t r) index

-- "Guard and test need a VAR parameter of record type and a type that extends it"
unfoldable pub narrows : List ℕ → List ℕ → ℕ → ℕ → Bool
narrows t v a b =
    eqb (row_at v a).kind 3 also eqb (row_at t (row_at v a).a).kind 4 also extends t b (row_at v a).a

-- "a guard has that type, a test BOOLEAN": type r where the node may narrow its variable
unfoldable pub narrow_node : List ℕ → List ℕ → Row → ℕ → Option ℕ
narrow_node t v row r = choose (narrows t v row.a row.b) (Some r) None

-- "5 dyadic a, b, operator c"
unfoldable pub dyadic_node : List ℕ → (ℕ → Option ℕ) → Row → Option ℕ
dyadic_node t type row =
    typed (type row.a) λ left. typed (type row.b) λ right. dyadic_kind row.c (kind_in t left) (kind_in t right)

-- "6 monadic a, operator c"
unfoldable pub monadic_node : List ℕ → (ℕ → Option ℕ) → Row → Option ℕ
monadic_node t type row = typed (type row.a) λ operand. monadic_kind row.c (kind_in t operand)

-- by the kind, from the types of lower rows; "8 argument holding a, with its type"
unfoldable pub type_by : List ℕ → List ℕ → List ℕ → (ℕ → Option ℕ) → ℕ → Row → Option ℕ
type_by t f v type kind row =
    choose (eqb kind 0) (Some row.a)
    (choose (eqb kind 1) (variable_node v row)
    (choose (eqb kind 2) (field_node t f type row)
    (choose (eqb kind 3) (element_node t type row)
    (choose (eqb kind 4) (narrow_node t v row row.b)
    (choose (eqb kind 5) (dyadic_node t type row)
    (choose (eqb kind 6) (monadic_node t type row)
    (choose (eqb kind 7) (narrow_node t v row BOOLEAN)
    (choose (eqb kind 8) (type row.a) None))))))))

-- the type of node row r
unfoldable pub type_of : List ℕ → List ℕ → List ℕ → List ℕ → ℕ → Option ℕ
type_of t f v n = rec None (λ type r. type_by t f v type (row_at n r).kind (row_at n r))

unfoldable pub has_type : Option ℕ → Bool
has_type None = false
has_type (Some r) = true

-- "10. Has each node a type?"
unfoldable pub question10 : List ℕ → List ℕ → List ℕ → List ℕ → Verdict
question10 t f v n = lowest_fault (λ r. has_type (type_of t f v n r)) (rows_of n)

-- ---- the table of types: one number a node

-- the type of node k in a table of the lower rows' types
unfoldable pub type_in : List ℕ → ℕ → Option ℕ
type_in types k = choose (ltb k (length types)) (Some (get_or types k 0)) None

-- how many node rows were passed
unfoldable pub passed : List ℕ → Verdict → ℕ
passed n (Ok _) = rows_of n
passed n (Err r) = r

-- the table holds the types of the first m nodes; every other cell is as it was
pub record Typed (type : ℕ → Option ℕ) (m : ℕ) (old types : List ℕ) : Type 0 where
  pub cells : length types ≡ length old
  pub holds : (k : ℕ) → k < m → type k ≡ Some (get_or types k 0)
  pub rest : (k : ℕ) → m ≤ k → get_or types k 0 ≡ get_or old k 0
