-- Finding a designator and evaluating an expression.
use Rattle.relations.specs.declared.FieldAt.{FieldAt}
use Rattle.std.specs.Prelude.{Option, ℕ, ◌+◌, ◌*◌, List, ltb, leb, eqb, ℤ, pos, negsuc, Result, Ok, Err, Some, None}
use Rattle.prelude.specs.Choice.{choose}
use Rattle.prelude.specs.Rec.{rec}
use Rattle.image.specs.declared.Row.{Row}
use Rattle.image.specs.Rows.{row_at}
use Rattle.shapes.specs.Forms.{kind_in}
use Rattle.shapes.specs.Sizes.{size_of}
use Rattle.relations.specs.Extends.{extends}
use Rattle.relations.specs.Fields.{field_of}
use Rattle.values.specs.Values.{constant_of, as_integer, bind, Answer}
use Rattle.values.specs.declared.Value.TheVariants as Vs
use Rattle.values.specs.declared.Trap.TheVariants as Ts
use Rattle.values.specs.declared.Stop.TheVariants as St
use Rattle.operators.specs.Operators.{monadic_of, applied_to}
use Rattle.semantics.specs.declared.Place.{Place}
use Rattle.semantics.specs.Memory.{ADDRESS, TYPE, Memory, value_at, mark_at, Mark}
use Rattle.semantics.specs.Layout.{Program, place_of}
use Rattle.values.specs.declared.Stop.{Stop}

-- what finding a designator gives: an object, or why there is none
abbrev pub Found : Type 0
Found = Result Place Stop

-- ---- "A trap in an operand ends the step with that trap"

-- what follows from an object that was found: another one, or a value
unfoldable pub reach : Found → (Place → Found) → Found
reach (Ok place) next = next place
reach (Err stop) next = Err stop

unfoldable pub content : Found → (Place → Answer) → Answer
content (Ok place) next = next place
content (Err stop) next = Err stop

-- what follows from an index
unfoldable pub index : Answer → (ℤ → Found) → Found
index (Ok v) next = as_integer (Err St.Stuck) v next
index (Err stop) next = Err stop

-- what follows from the number of an address or a type
unfoldable pub with_mark : Mark → (ℕ → Found) → Found
with_mark (Some n) next = next n
with_mark None next = Err St.Stuck

-- ---- designators

-- "every other object's is its declared type": an object of type r at an address
abbrev pub object : ℕ → ℕ → Found
object address r = Ok (record { address = address; declared = r; dynamic = r })

-- "A VAR parameter's dynamic type is its type cell": the two cells from a on, of a parameter of type r
unfoldable pub parameter_place : {X : Type 0} → Memory X → ℕ → List X → ℕ → ℕ → Found
parameter_place m top cells a r =
    with_mark (mark_at m top cells ADDRESS a) λ address.
    with_mark (mark_at m top cells TYPE (a + 1)) λ dynamic.
    Ok (record { address = address; declared = r; dynamic = dynamic })

-- "1 variable a."
unfoldable pub variable_place : {X : Type 0} → Memory X → Program → ℕ → ℕ → List X → ℕ → Row → Found
variable_place m g base top cells a row =
    choose (eqb row.kind 0) (object (place_of g a) row.a)
    (choose (leb row.kind 2) (object (base + place_of g a) row.a)
    (choose (eqb row.kind 3) (parameter_place m top cells (base + place_of g a) row.a) (Err St.Stuck)))

-- "2 field b (base's fields counted first) of a."
unfoldable pub field_place : Place → Option FieldAt → Found
field_place whole None = Err St.Stuck
field_place whole (Some x) = object (whole.address + x.offset) x.declared

-- "3 element of a at b."; trap "1 index"
unfoldable pub element_place : Program → Place → Row → ℤ → Found
element_place g whole array (pos i) =
    choose (ltb i array.b)
    (object (whole.address + i * size_of g.types g.fields array.a) array.a) (Err (St.Trap Ts.Index))
element_place g whole array (negsuc i) = Err (St.Trap Ts.Index)

unfoldable pub array_place : Program → Place → Answer → Found
array_place g whole answer =
    choose (eqb (row_at g.types whole.declared).kind 3)
    (index answer (element_place g whole (row_at g.types whole.declared))) (Err St.Stuck)

-- "4 guard: variable a, type b."; trap "2 guard"; "a guard has that type"
unfoldable pub guard_place : Program → ℕ → Place → Found
guard_place g b place =
    choose (extends g.types place.dynamic b)
    (Ok (record { address = place.address; declared = b; dynamic = place.dynamic })) (Err (St.Trap Ts.Guard))

-- "7 type test: variable a, type b."
unfoldable pub test_of : Program → ℕ → Place → Answer
test_of g b place = Ok (Vs.Bool (extends g.types place.dynamic b))

-- ---- every node

-- what a node means: the object that it designates, and its value
pub record Meaning : Type 0 where
  pub place : Found
  pub value : Answer

abbrev pub no_meaning : Meaning
no_meaning = record { place = Err St.Stuck; value = Err St.Stuck }

abbrev pub expression : Answer → Meaning
expression answer = record { place = Err St.Stuck; value = answer }

-- "an expression's operand may be a designator, found first": then its cell is read
unfoldable pub designator : {X : Type 0} → Memory X → Program → ℕ → List X → Found → Meaning
designator m g top cells found = record {
  place = found;
  value = content found λ place. value_at m top cells (kind_in g.types place.declared) place.address;
}

-- "Operands go left to right", by the kind; "8 argument holding a"
unfoldable pub meaning_by : {X : Type 0} → Memory X → Program → ℕ → ℕ → List X → (ℕ → Meaning) → ℕ → Row → Meaning
meaning_by m g base top cells child kind row =
    let variable : Found = variable_place m g base top cells row.a (row_at g.variables row.a) in
    choose (eqb kind 0) (expression (constant_of row.a row.b row.c))
    (choose (eqb kind 1) (designator m g top cells variable)
    (choose (eqb kind 2) (designator m g top cells (reach (child row.a).place λ whole.
    field_place whole (field_of g.types g.fields whole.declared row.b)))
    (choose (eqb kind 3) (designator m g top cells (reach (child row.a).place λ whole.
    array_place g whole (child row.b).value))
    (choose (eqb kind 4) (designator m g top cells (reach variable (guard_place g row.b)))
    (choose (eqb kind 5) (expression (bind (child row.a).value λ left.
    applied_to row.c left (child row.b).value))
    (choose (eqb kind 6) (expression (bind (child row.a).value λ operand. monadic_of row.c operand))
    (choose (eqb kind 7) (expression (content variable (test_of g row.b)))
    (choose (eqb kind 8) (child row.a) no_meaning))))))))

unfoldable pub meaning_of : {X : Type 0} → Memory X → Program → ℕ → ℕ → List X → ℕ → Meaning
meaning_of m g base top cells =
    rec no_meaning (λ child r. meaning_by m g base top cells child (row_at g.nodes r).kind (row_at g.nodes r))

-- the object that node row r designates
unfoldable pub find_of : {X : Type 0} → Memory X → Program → ℕ → ℕ → List X → ℕ → Found
find_of m g base top cells r = (meaning_of m g base top cells r).place

-- "Evaluation gives a value of a scalar kind or a trap, or is stuck."
unfoldable pub eval_of : {X : Type 0} → Memory X → Program → ℕ → ℕ → List X → ℕ → Answer
eval_of m g base top cells r = (meaning_of m g base top cells r).value
