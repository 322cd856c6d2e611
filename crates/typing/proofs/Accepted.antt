-- What question 10 says of an accepted node: its type, by its kind.
use Rattle.relations.specs.Fields.{field_at, field_of}
use Rattle.relations.specs.declared.FieldAt.{FieldAt}
use Rattle.std.specs.Prelude.{Option, Some, None, Ok}
use mathlib.Core.Path.{◌≡◌, refl, sym, ◌∙◌, ap}
use mathlib.Core.Bool.{Bool, true, false}
use mathlib.Core.List.{List}
use Prim.Native.Nat.{ℕ, zero, suc, ◌≤◌, ◌<◌}
use native.Mathlib.Omega.{arith}
use native.Mathlib.Decide.{dec_lt}
use borrow.Author.Tests.{eqb-true}
use lib.Dec.{eqb}
use Rattle.prelude.specs.Choice.{choose}
use Rattle.prelude.proofs.Choice.{also_true, clash}
use Rattle.prelude.proofs.Rec.{below_low, rec_eq}
use Rattle.image.specs.declared.Row.{Row}
use Rattle.image.specs.Rows.{row_at, rows_of}
use Rattle.image.proofs.Faults.{verdict_kept}
use Rattle.values.specs.Values.{BOOLEAN, INTEGER}
use Rattle.values.proofs.Scalars.{scalar_below}
use Rattle.kinds.specs.Kinds.{dyadic_kind, monadic_kind}
use Rattle.kinds.proofs.Scalars.{dyadic_scalar, monadic_scalar}
use Rattle.shapes.specs.Forms.{kind_in}
use Rattle.relations.specs.Extends.{extends}
use Rattle.nodes.proofs.Accepted.{NodeRow, NodeRow.is_constant, NodeRow.is_variable, NodeRow.is_field}
use Rattle.nodes.proofs.Accepted.{NodeRow.is_element_lem, NodeRow.is_guard, NodeRow.is_dyadic, NodeRow.is_monadic}
use Rattle.nodes.proofs.Accepted.{NodeRow.is_test, NodeRow.is_argument_lem, NodesAccepted}
use Rattle.nodes.proofs.Accepted.{nodes_kept, constant_is, variable_is, field_is, element_is, guard_is, argument_is}
use Rattle.types.specs.Question.{TypesAccepted}
use Rattle.types.proofs.Accepted.{types_kept}
use Rattle.shapes.proofs.Accepted.{TypesKept}
use Rattle.frames.specs.Variables.{question5}
use Rattle.frames.proofs.Accepted.{variables_kept}
use Rattle.typing.specs.Typing.{typed, variable_node, field_type, field_node, element_type, element_node, narrows}
use Rattle.typing.specs.Typing.{narrow_node, dyadic_node, monadic_node, type_by, type_of, has_type, question10}
use Rattle.typing.proofs.Passing.{type_missing}
use Rattle.typing.proofs.Lower.{field_row, element_row}

-- ---- the types that the kinds ask for

pub record FieldTyped (t f v n : List ℕ) (r x : ℕ) : Type 0 where
  pub whole : ℕ
  pub at : ℕ
  pub whole_type : type_of t f v n (row_at n r).a ≡ Some whole
  pub field : field_of t f whole (row_at n r).b ≡ Some (field_at at x)

pub record ElementTyped (t f v n : List ℕ) (r x : ℕ) : Type 0 where
  pub whole : ℕ
  pub whole_type : type_of t f v n (row_at n r).a ≡ Some whole
  pub array : (row_at t whole).kind ≡ 3
  pub element : x ≡ (row_at t whole).a
  pub index_type : type_of t f v n (row_at n r).b ≡ Some INTEGER

-- a guard or a test of variable a for type b
pub record Narrowing (t v : List ℕ) (a b : ℕ) : Type 0 where
  pub parameter : (row_at v a).kind ≡ 3
  pub declared : (row_at t (row_at v a).a).kind ≡ 4
  pub extension : extends t b (row_at v a).a ≡ true

pub record GuardTyped (t v n : List ℕ) (r x : ℕ) : Type 0 where
  pub narrowing : Narrowing t v (row_at n r).a (row_at n r).b
  pub guarded : x ≡ (row_at n r).b

pub record DyadicTyped (t f v n : List ℕ) (r x : ℕ) : Type 0 where
  pub left : ℕ
  pub right : ℕ
  pub left_type : type_of t f v n (row_at n r).a ≡ Some left
  pub right_type : type_of t f v n (row_at n r).b ≡ Some right
  pub result : dyadic_kind (row_at n r).c (kind_in t left) (kind_in t right) ≡ Some x

pub record MonadicTyped (t f v n : List ℕ) (r x : ℕ) : Type 0 where
  pub operand : ℕ
  pub operand_type : type_of t f v n (row_at n r).a ≡ Some operand
  pub result : monadic_kind (row_at n r).c (kind_in t operand) ≡ Some x

pub record TestTyped (t v n : List ℕ) (r x : ℕ) : Type 0 where
  pub narrowing : Narrowing t v (row_at n r).a (row_at n r).b
  pub boolean : x ≡ BOOLEAN

-- a node of type x: its kind, and what the kind asks for
pub data NodeTyped (t f v n : List ℕ) (r x : ℕ) : Type 0 where
  by_constant : (row_at n r).kind ≡ 0 → x ≡ (row_at n r).a → NodeTyped t f v n r x
  by_variable : (row_at n r).kind ≡ 1 → x ≡ (row_at v (row_at n r).a).a → NodeTyped t f v n r x
  by_field : (row_at n r).kind ≡ 2 → FieldTyped t f v n r x → NodeTyped t f v n r x
  by_element : (row_at n r).kind ≡ 3 → ElementTyped t f v n r x → NodeTyped t f v n r x
  by_guard : (row_at n r).kind ≡ 4 → GuardTyped t v n r x → NodeTyped t f v n r x
  by_dyadic : (row_at n r).kind ≡ 5 → DyadicTyped t f v n r x → NodeTyped t f v n r x
  by_monadic : (row_at n r).kind ≡ 6 → MonadicTyped t f v n r x → NodeTyped t f v n r x
  by_test : (row_at n r).kind ≡ 7 → TestTyped t v n r x → NodeTyped t f v n r x
  by_argument : (row_at n r).kind ≡ 8 → type_of t f v n (row_at n r).a ≡ Some x → NodeTyped t f v n r x

-- ---- what the definitions say

no_kind : {C : Type 0} {x : ℕ} → None ≡ Some x → C
no_kind e = let z : ◌≡◌ {A = ℕ} 0 1 = cc in absurd (omega arith)

pub same_kind : {x y : ℕ} → Some x ≡ Some y → x ≡ y
same_kind e = cc

has_type_lem : (a : Option ℕ) → has_type a ≡ true → (x : ℕ) × (a ≡ Some x)
unfolding has_type
has_type_lem None e = clash (sym e)
has_type_lem (Some x) e = (x, refl)

typed_is : (a : Option ℕ) (next : ℕ → Option ℕ) {x : ℕ} → typed a next ≡ Some x
    → (k : ℕ) × (a ≡ Some k) × (next k ≡ Some x)
unfolding typed
typed_is None next e = no_kind e
typed_is (Some k) next e = (k, refl, e)

choose_kind : (b : Bool) (a : Option ℕ) {x : ℕ} → choose b a None ≡ Some x → (b ≡ true) × (a ≡ Some x)
unfolding choose
choose_kind true a e = (refl, e)
choose_kind false a e = no_kind e

field_there : (a : Option FieldAt) {x : ℕ} → field_type a ≡ Some x → (at : ℕ) × (a ≡ Some (field_at at x))
unfolding field_type
field_there None e = no_kind e
field_there (Some x) e = let q : x.declared ≡ _ = same_kind e in (x.offset, rw (← q))

element_there : (array : Row) (index : ℕ) {x : ℕ} → element_type array index ≡ Some x
    → (array.kind ≡ 3) × (index ≡ INTEGER) × (x ≡ array.a)
unfolding element_type
element_there array index e =
    let (kind, e₁) = choose_kind (eqb array.kind 3) _ e in
    let (integer, type) = choose_kind (eqb index INTEGER) _ e₁ in
    (eqb-true _ _ kind, eqb-true _ _ integer, sym (same_kind type))

narrowing_is : (t v : List ℕ) (a b : ℕ) → narrows t v a b ≡ true → Narrowing t v a b
unfolding narrows
narrowing_is t v a b e =
    let (kind, e₁) = also_true _ _ e in
    let (declared, extension) = also_true _ _ e₁ in
    record { parameter = eqb-true _ _ kind; declared = eqb-true _ _ declared; extension = extension }

narrow_there : (t v : List ℕ) (row : Row) (given : ℕ) {x : ℕ} → narrow_node t v row given ≡ Some x
    → Narrowing t v row.a row.b × (x ≡ given)
unfolding narrow_node
narrow_there t v row given e =
    let (may, type) = choose_kind (narrows t v row.a row.b) _ e in
    (narrowing_is t v row.a row.b may, sym (same_kind type))

-- ---- a node's type from its children's, which stand in lower rows

module _ (t f v n : List ℕ) (r : ℕ) (g h : ℕ → Option ℕ) (same : (k : ℕ) → k < r → g k ≡ h k) where
  type_agree : NodeRow t v n r
      → type_by t f v g (row_at n r).kind (row_at n r) ≡ type_by t f v h (row_at n r).kind (row_at n r)
  unfolding type_by choose field_node element_node dyadic_node monadic_node
  type_agree (is_constant z k c) = rw k
  type_agree (is_variable z k c) = rw k
  type_agree (is_field z k c) = rw (k, same (row_at n r).a c.whole.low)
  type_agree (is_element_lem z k c) = rw (k, same (row_at n r).a c.whole.low, same (row_at n r).b c.index.low)
  type_agree (is_guard z k c) = rw k
  type_agree (is_dyadic z k c) = rw (k, same (row_at n r).a c.left.low, same (row_at n r).b c.right.low)
  type_agree (is_monadic z k c) = rw (k, same (row_at n r).a c.operand.low)
  type_agree (is_test z k c) = rw k
  type_agree (is_argument_lem z k c) = rw (k, same (row_at n r).a c.holds.low)

module _ {version : ℕ} (t f v n : List ℕ) (kept : NodesAccepted version t v n) (r : ℕ) (h : r < rows_of n) where
  pub type_is : type_of t f v n r ≡ type_by t f v (type_of t f v n) (row_at n r).kind (row_at n r)
  unfolding type_of
  type_is =
      rec_eq None (λ type k. type_by t f v type (row_at n k).kind (row_at n k)) r
      ∙ type_agree t f v n r _ _ (λ k low. below_low None r _ k low) (nodes_kept t v n kept r h)

  -- where the node has a type
  module _ {x : ℕ} (type : type_of t f v n r ≡ Some x) where
    given : (k : ℕ) → (row_at n r).kind ≡ k → type_by t f v (type_of t f v n) k (row_at n r) ≡ Some x
    given k kind = sym (ap (λ j. type_by t f v (type_of t f v n) j (row_at n r)) kind) ∙ sym type_is ∙ type

    pub constant_typed : (row_at n r).kind ≡ 0 → x ≡ (row_at n r).a
    unfolding type_by choose
    constant_typed k = sym (same_kind (given 0 k))

    pub variable_typed : (row_at n r).kind ≡ 1 → x ≡ (row_at v (row_at n r).a).a
    unfolding type_by choose variable_node
    variable_typed k = sym (same_kind (given 1 k))

    pub field_typed : (row_at n r).kind ≡ 2 → FieldTyped t f v n r x
    unfolding type_by choose field_node
    field_typed k =
        let (w, whole, e) = typed_is (type_of t f v n (row_at n r).a) _ (given 2 k) in
        let (at, field) = field_there (field_of t f w (row_at n r).b) e in
        record { whole = w; at = at; whole_type = whole; field = field }

    pub element_typed : (row_at n r).kind ≡ 3 → ElementTyped t f v n r x
    unfolding type_by choose element_node
    element_typed k =
        let (w, whole, e) = typed_is (type_of t f v n (row_at n r).a) _ (given 3 k) in
        let (i, index, e₁) = typed_is (type_of t f v n (row_at n r).b) _ e in
        let (array, integer, element) = element_there (row_at t w) i e₁ in
        let integer_index = index ∙ ap Some integer in
        record { whole = w; whole_type = whole; array = array; element = element; index_type = integer_index }

    pub guard_typed : (row_at n r).kind ≡ 4 → GuardTyped t v n r x
    unfolding type_by choose
    guard_typed k =
        let (narrowing, guarded) = narrow_there t v (row_at n r) _ (given 4 k) in
        record { narrowing = narrowing; guarded = guarded }

    pub dyadic_typed : (row_at n r).kind ≡ 5 → DyadicTyped t f v n r x
    unfolding type_by choose dyadic_node
    dyadic_typed k =
        let (a, left, e) = typed_is (type_of t f v n (row_at n r).a) _ (given 5 k) in
        let (b, right, result) = typed_is (type_of t f v n (row_at n r).b) _ e in
        record { left = a; right = b; left_type = left; right_type = right; result = result }

    pub monadic_typed : (row_at n r).kind ≡ 6 → MonadicTyped t f v n r x
    unfolding type_by choose monadic_node
    monadic_typed k =
        let (a, operand, result) = typed_is (type_of t f v n (row_at n r).a) _ (given 6 k) in
        record { operand = a; operand_type = operand; result = result }

    pub test_typed : (row_at n r).kind ≡ 7 → TestTyped t v n r x
    unfolding type_by choose
    test_typed k =
        let (narrowing, boolean) = narrow_there t v (row_at n r) _ (given 7 k) in
        record { narrowing = narrowing; boolean = boolean }

    pub argument_typed : (row_at n r).kind ≡ 8 → type_of t f v n (row_at n r).a ≡ Some x
    unfolding type_by choose
    argument_typed k = given 8 k

    pub typed_node : NodeTyped t f v n r x
    typed_node = go (nodes_kept t v n kept r h)
      where
        go : NodeRow t v n r → NodeTyped t f v n r x
        go (is_constant z k c) = by_constant k (constant_typed k)
        go (is_variable z k c) = by_variable k (variable_typed k)
        go (is_field z k c) = by_field k (field_typed k)
        go (is_element_lem z k c) = by_element k (element_typed k)
        go (is_guard z k c) = by_guard k (guard_typed k)
        go (is_dyadic z k c) = by_dyadic k (dyadic_typed k)
        go (is_monadic z k c) = by_monadic k (monadic_typed k)
        go (is_test z k c) = by_test k (test_typed k)
        go (is_argument_lem z k c) = by_argument k (argument_typed k)

-- ---- the whole table

pub nodes_typed : (t f v n : List ℕ) → question10 t f v n ≡ Ok tt → (r : ℕ) → r < rows_of n
    → (x : ℕ) × (type_of t f v n r ≡ Some x)
unfolding question10
nodes_typed t f v n e r h = has_type_lem (type_of t f v n r) (verdict_kept _ (rows_of n) e r h)

pub node_typed : {version : ℕ} (t f v n : List ℕ) → NodesAccepted version t v n → question10 t f v n ≡ Ok tt
    → (r : ℕ) → r < rows_of n
    → (x : ℕ) × NodeTyped t f v n r x × (type_of t f v n r ≡ Some x)
node_typed t f v n formed e r h =
    let (x, type) = nodes_typed t f v n e r h in
    (x, typed_node t f v n formed r h type, type)

-- ---- a node's type is a type row

module _ {version : ℕ} (t f v n : List ℕ) (types : TypesKept t f) (scalars : 3 ≤ rows_of t)
    (variables : question5 t v ≡ Ok tt) (nodes : NodesAccepted version t v n) where
  low_node : (r x : ℕ) → r < rows_of n
      → ((k : ℕ) → k < r → (y : ℕ) → type_of t f v n k ≡ Some y → y < rows_of t)
      → NodeTyped t f v n r x → x < rows_of t
  low_node r x h ih (by_constant k e) = let low = (constant_is t v n nodes r h k).typed in omega arith
  low_node r x h ih (by_variable k e) =
      let there = (variable_is t v n nodes r h k).variable in
      rw e (variables_kept t v variables (row_at n r).a there).typed
  low_node r x h ih (by_field k e) =
      let low = (field_is t v n nodes r h k).whole.low in
      let whole = ih (row_at n r).a low e.whole e.whole_type in
      field_row t f types e.whole (row_at n r).b e.at x whole e.field
  low_node r x h ih (by_element k e) =
      let low = (element_is t v n nodes r h k).whole.low in
      let whole = ih (row_at n r).a low e.whole e.whole_type in
      rw e.element (element_row t f types e.whole whole e.array)
  low_node r x h ih (by_guard k e) = rw e.guarded (guard_is t v n nodes r h k).typed
  low_node r x h ih (by_dyadic k e) =
      let low = scalar_below (dyadic_scalar (row_at n r).c _ _ x e.result).given_scalar in
      omega arith
  low_node r x h ih (by_monadic k e) =
      let low = scalar_below (monadic_scalar (row_at n r).c _ x e.result).1 in
      omega arith
  low_node r x h ih (by_test k e) = let zero_row = e.boolean in omega arith
  low_node r x h ih (by_argument k e) = ih (row_at n r).a (argument_is t v n nodes r h k).holds.low x e

  low_by : (m r : ℕ) → r < m → (x : ℕ) → type_of t f v n r ≡ Some x → x < rows_of t
  low_by zero r less x type = absurd (omega arith)
  low_by (suc m) r less x type = go (dec_lt r (rows_of n)) (λ k low. low_by m k (omega arith))
    where
      go : Dec (r < rows_of n) → ((k : ℕ) → k < r → (y : ℕ) → type_of t f v n k ≡ Some y → y < rows_of t) → x < rows_of t
      go (yes h) ih = low_node r x h ih (typed_node t f v n nodes r h type)
      go (no h) ih = no_kind (sym (type_missing t f v n r (omega arith)) ∙ type)

pub type_low : {version : ℕ} (t f v n : List ℕ) → TypesAccepted t f → 3 ≤ rows_of t → question5 t v ≡ Ok tt
    → NodesAccepted version t v n → (r x : ℕ) → type_of t f v n r ≡ Some x → x < rows_of t
type_low t f v n types scalars variables nodes r x =
    low_by t f v n (types_kept t f types) scalars variables nodes (suc r) r (omega arith) x
