-- What question 7 says of an accepted node row.
use Rattle.std.specs.Prelude.{Ok}
use mathlib.Core.Path.{◌≡◌, sym, ◌∙◌, ap}
use mathlib.Core.Bool.{true, false}
use mathlib.Core.List.{List}
use mathlib.Core.Logic.{⊎_elim}
use Prim.Native.Nat.{ℕ, ◌≤◌, ◌<◌}
use native.Mathlib.Omega.{arith}
use borrow.Author.Tests.{ltb-true, leb-true, eqb-true, eqb-false, eq-eqb, not-true}
use lib.Dec.{eqb}
use Rattle.prelude.specs.Choice.{choose}
use Rattle.prelude.proofs.Choice.{choose_yes, choose_cases, also_true, clash}
use Rattle.image.specs.declared.Row.{Row}
use Rattle.image.specs.Rows.{row_at, rows_of}
use Rattle.image.specs.Versions.{scalar_rows, monadics}
use Rattle.image.proofs.Bytes.{row_there}
use Rattle.image.proofs.Faults.{verdict_kept}
use Rattle.image.proofs.Versions.{few_rows, few_monadics}
use Rattle.nodes.specs.Nodes.{is_designator, is_argument, child_kept, designator_kept, constant_kept, variable_kept}
use Rattle.nodes.specs.Nodes.{field_kept, element_kept, guard_kept, dyadic_kept, monadic_kept, argument_kept}
use Rattle.nodes.specs.Nodes.{form_kept, node_kept, question7}

-- ---- nodes that may be named

-- a node that is no argument
pub record Plain (n : List ℕ) (k : ℕ) : Type 0 where
  pub within : k < rows_of n
  pub plain : (row_at n k).kind ≡ 8 → ⊥

-- a designator
pub record Designator (n : List ℕ) (k : ℕ) : Type 0 where
  pub within : k < rows_of n
  pub least : 1 ≤ (row_at n k).kind
  pub most : (row_at n k).kind ≤ 4

pub designator_plain : (n : List ℕ) (k : ℕ) → Designator n k → Plain n k
designator_plain n k d = let most = d.most in record { within = d.within; plain = λ e. absurd (omega arith) }

pub argument_kind : (n : List ℕ) (k : ℕ) → is_argument n k ≡ true → (row_at n k).kind ≡ 8
unfolding is_argument
argument_kind n k e = eqb-true _ _ e

pub argument_within : (n : List ℕ) (k : ℕ) → is_argument n k ≡ true → k < rows_of n
argument_within n k e = let kind = argument_kind n k e in row_there n k (omega arith)

pub argument_not : (n : List ℕ) (k : ℕ) → is_argument n k ≡ false → (row_at n k).kind ≡ 8 → ⊥
unfolding is_argument
argument_not n k e = eqb-false _ _ e

pub designator_is : (n : List ℕ) (k : ℕ) → is_designator n k ≡ true → Designator n k
unfolding is_designator
designator_is n k e =
    let (low, high) = also_true _ _ e in
    let least = leb-true 1 (row_at n k).kind low in
    let most = leb-true (row_at n k).kind 4 high in
    record { within = row_there n k (omega arith); least = least; most = most }

-- ---- a row of each kind

-- node r's child k
pub record Child (n : List ℕ) (r k : ℕ) : Type 0 where
  pub low : k < r
  pub node : Plain n k

-- the designator k that node r names a field or an element of
pub record Whole (n : List ℕ) (r k : ℕ) : Type 0 where
  pub low : k < r
  pub node : Designator n k

pub record ConstantNode (row : Row) : Type 0 where
  pub typed : row.a ≤ 2
  pub boolean : row.a ≡ 0 → (row.b ≡ 0) × (row.c ≤ 1)

pub record VariableNode (v : List ℕ) (row : Row) : Type 0 where
  pub variable : row.a < rows_of v
  pub unused_b : row.b ≡ 0
  pub unused_c : row.c ≡ 0

pub record FieldNode (n : List ℕ) (r : ℕ) (row : Row) : Type 0 where
  pub whole : Whole n r row.a
  pub unused_c : row.c ≡ 0

pub record ElementNode (n : List ℕ) (r : ℕ) (row : Row) : Type 0 where
  pub whole : Whole n r row.a
  pub index : Child n r row.b
  pub unused_c : row.c ≡ 0

-- a guard or a test
pub record GuardNode (t v : List ℕ) (row : Row) : Type 0 where
  pub variable : row.a < rows_of v
  pub typed : row.b < rows_of t
  pub unused_c : row.c ≡ 0

pub record DyadicNode (n : List ℕ) (r : ℕ) (row : Row) : Type 0 where
  pub left : Child n r row.a
  pub right : Child n r row.b
  pub least : 1 ≤ row.c
  pub most : row.c ≤ 16

pub record MonadicNode (n : List ℕ) (r : ℕ) (row : Row) : Type 0 where
  pub operand : Child n r row.a
  pub unused_b : row.b ≡ 0
  pub least : 1 ≤ row.c
  pub most : row.c ≤ 2

pub record ArgumentNode (n : List ℕ) (r : ℕ) (row : Row) : Type 0 where
  pub holds : Child n r row.a
  pub unused_b : row.b ≡ 0
  pub unused_c : row.c ≡ 0

-- an accepted node row: its zero byte, its kind, and what the kind asks for
pub data NodeRow (t v n : List ℕ) (r : ℕ) : Type 0 where
  is_constant : (row_at n r).zero ≡ 0 → (row_at n r).kind ≡ 0 → ConstantNode (row_at n r) → NodeRow t v n r
  is_variable : (row_at n r).zero ≡ 0 → (row_at n r).kind ≡ 1 → VariableNode v (row_at n r) → NodeRow t v n r
  is_field : (row_at n r).zero ≡ 0 → (row_at n r).kind ≡ 2 → FieldNode n r (row_at n r) → NodeRow t v n r
  is_element_lem : (row_at n r).zero ≡ 0 → (row_at n r).kind ≡ 3 → ElementNode n r (row_at n r) → NodeRow t v n r
  is_guard : (row_at n r).zero ≡ 0 → (row_at n r).kind ≡ 4 → GuardNode t v (row_at n r) → NodeRow t v n r
  is_dyadic : (row_at n r).zero ≡ 0 → (row_at n r).kind ≡ 5 → DyadicNode n r (row_at n r) → NodeRow t v n r
  is_monadic : (row_at n r).zero ≡ 0 → (row_at n r).kind ≡ 6 → MonadicNode n r (row_at n r) → NodeRow t v n r
  is_test : (row_at n r).zero ≡ 0 → (row_at n r).kind ≡ 7 → GuardNode t v (row_at n r) → NodeRow t v n r
  is_argument_lem : (row_at n r).zero ≡ 0 → (row_at n r).kind ≡ 8 → ArgumentNode n r (row_at n r) → NodeRow t v n r

-- ---- what the rules say

constant_node : (version : ℕ) (row : Row) → constant_kept version row ≡ true → ConstantNode row
unfolding constant_kept
constant_node version row e =
    let (typed, rest) = also_true _ _ e in
    record {
      typed = omega (arith, ltb-true row.a (scalar_rows version) typed, few_rows version);
      boolean = λ z.
          let (b, c) = also_true _ _ (sym (choose_yes _ _ _ (eq-eqb row.a 0 z)) ∙ rest) in
          (eqb-true _ _ b, leb-true _ _ c);
    }

variable_node_lem : (v : List ℕ) (row : Row) → variable_kept (rows_of v) row ≡ true → VariableNode v row
unfolding variable_kept
variable_node_lem v row e =
    let (a, e₁) = also_true _ _ e in
    let (b, c) = also_true _ _ e₁ in
    record { variable = ltb-true _ _ a; unused_b = eqb-true _ _ b; unused_c = eqb-true _ _ c }

guard_node : (t v : List ℕ) (row : Row) → guard_kept (rows_of t) (rows_of v) row ≡ true → GuardNode t v row
unfolding guard_kept
guard_node t v row e =
    let (a, e₁) = also_true _ _ e in
    let (b, c) = also_true _ _ e₁ in
    record { variable = ltb-true _ _ a; typed = ltb-true _ _ b; unused_c = eqb-true _ _ c }

module _ (n : List ℕ) (r : ℕ) (h : r < rows_of n) where
  child : (k : ℕ) → child_kept n r k ≡ true → Child n r k
  unfolding child_kept
  child k e =
      let (less, other) = also_true _ _ e in
      let low = ltb-true k r less in
      record { low = low; node = record { within = omega arith; plain = argument_not n k (not-true _ other) } }

  whole : (k : ℕ) → designator_kept n r k ≡ true → Whole n r k
  unfolding designator_kept
  whole k e = let (low, d) = also_true _ _ e in record { low = ltb-true _ _ low; node = designator_is n k d }

  field_node_lem : (row : Row) → field_kept n r row ≡ true → FieldNode n r row
  unfolding field_kept
  field_node_lem row e = let (a, c) = also_true _ _ e in record { whole = whole _ a; unused_c = eqb-true _ _ c }

  element_node_lem : (row : Row) → element_kept n r row ≡ true → ElementNode n r row
  unfolding element_kept
  element_node_lem row e =
      let (a, e₁) = also_true _ _ e in
      let (b, c) = also_true _ _ e₁ in
      record { whole = whole _ a; index = child _ b; unused_c = eqb-true _ _ c }

  dyadic_node_lem : (row : Row) → dyadic_kept n r row ≡ true → DyadicNode n r row
  unfolding dyadic_kept
  dyadic_node_lem row e =
      let (a, e₁) = also_true _ _ e in
      let (b, e₂) = also_true _ _ e₁ in
      let (low, high) = also_true _ _ e₂ in
      record { left = child _ a; right = child _ b; least = leb-true _ _ low; most = leb-true _ _ high }

  monadic_node_lem : (version : ℕ) (row : Row) → monadic_kept version n r row ≡ true → MonadicNode n r row
  unfolding monadic_kept
  monadic_node_lem version row e =
      let (a, e₁) = also_true _ _ e in
      let (b, e₂) = also_true _ _ e₁ in
      let (low, high) = also_true _ _ e₂ in
      record {
        operand = child _ a;
        unused_b = eqb-true _ _ b;
        least = leb-true _ _ low;
        most = omega (arith, leb-true row.c (monadics version) high, few_monadics version);
      }

  argument_node : (row : Row) → argument_kept n r row ≡ true → ArgumentNode n r row
  unfolding argument_kept
  argument_node row e =
      let (a, e₁) = also_true _ _ e in
      let (b, c) = also_true _ _ e₁ in
      record { holds = child _ a; unused_b = eqb-true _ _ b; unused_c = eqb-true _ _ c }

  node_row : (version : ℕ) (t v : List ℕ) → node_kept version (rows_of t) (rows_of v) n r ≡ true → NodeRow t v n r
  unfolding node_kept form_kept
  node_row version t v e =
      let (zero, form) = also_true _ _ e in
      let row = row_at n r in
      let z : (row_at n r).zero ≡ 0 = eqb-true _ _ zero in
      ⊎_elim (λ k. is_constant z (eqb-true _ _ k.0) (constant_node version row k.1))
      (λ o. ⊎_elim (λ k. is_variable z (eqb-true _ _ k.0) (variable_node_lem v row k.1))
      (λ o. ⊎_elim (λ k. is_field z (eqb-true _ _ k.0) (field_node_lem row k.1))
      (λ o. ⊎_elim (λ k. is_element_lem z (eqb-true _ _ k.0) (element_node_lem row k.1))
      (λ o. ⊎_elim (λ k. is_guard z (eqb-true _ _ k.0) (guard_node t v row k.1))
      (λ o. ⊎_elim (λ k. is_dyadic z (eqb-true _ _ k.0) (dyadic_node_lem row k.1))
      (λ o. ⊎_elim (λ k. is_monadic z (eqb-true _ _ k.0) (monadic_node_lem version row k.1))
      (λ o. ⊎_elim (λ k. is_test z (eqb-true _ _ k.0) (guard_node t v row k.1))
      (λ o. ⊎_elim (λ k. is_argument_lem z (eqb-true _ _ k.0) (argument_node row k.1))
      (λ o. clash (sym o.1))
      (choose_cases (eqb row.kind 8) o.1))
      (choose_cases (eqb row.kind 7) o.1))
      (choose_cases (eqb row.kind 6) o.1))
      (choose_cases (eqb row.kind 5) o.1))
      (choose_cases (eqb row.kind 4) o.1))
      (choose_cases (eqb row.kind 3) o.1))
      (choose_cases (eqb row.kind 2) o.1))
      (choose_cases (eqb row.kind 1) o.1))
      (choose_cases (eqb row.kind 0) form)

-- ---- the whole table

-- question 7 accepts the nodes of an image of a version
pub record NodesAccepted (version : ℕ) (t v n : List ℕ) : Type 0 where
  pub passes : question7 version t v n ≡ Ok tt

module _ {version : ℕ} (t v n : List ℕ) (accepted : NodesAccepted version t v n) (r : ℕ) (h : r < rows_of n) where
  kept : node_kept version (rows_of t) (rows_of v) n r ≡ true
  unfolding question7
  kept = verdict_kept (node_kept version (rows_of t) (rows_of v) n) (rows_of n) accepted.passes r h

  pub nodes_kept : NodeRow t v n r
  nodes_kept = node_row n r h version t v kept

  -- where the kind is known
  form : (k : ℕ) → (row_at n r).kind ≡ k → form_kept version (rows_of t) (rows_of v) n r k (row_at n r) ≡ true
  unfolding node_kept
  form k kind = sym (ap (λ j. form_kept version (rows_of t) (rows_of v) n r j (row_at n r)) kind) ∙ (also_true _ _ kept).1

  pub constant_is : (row_at n r).kind ≡ 0 → ConstantNode (row_at n r)
  unfolding form_kept choose
  constant_is k = constant_node version (row_at n r) (form 0 k)

  pub variable_is : (row_at n r).kind ≡ 1 → VariableNode v (row_at n r)
  unfolding form_kept choose
  variable_is k = variable_node_lem v (row_at n r) (form 1 k)

  pub field_is : (row_at n r).kind ≡ 2 → FieldNode n r (row_at n r)
  unfolding form_kept choose
  field_is k = field_node_lem n r h (row_at n r) (form 2 k)

  pub element_is : (row_at n r).kind ≡ 3 → ElementNode n r (row_at n r)
  unfolding form_kept choose
  element_is k = element_node_lem n r h (row_at n r) (form 3 k)

  pub guard_is : (row_at n r).kind ≡ 4 → GuardNode t v (row_at n r)
  unfolding form_kept choose
  guard_is k = guard_node t v (row_at n r) (form 4 k)

  pub dyadic_is : (row_at n r).kind ≡ 5 → DyadicNode n r (row_at n r)
  unfolding form_kept choose
  dyadic_is k = dyadic_node_lem n r h (row_at n r) (form 5 k)

  pub monadic_is : (row_at n r).kind ≡ 6 → MonadicNode n r (row_at n r)
  unfolding form_kept choose
  monadic_is k = monadic_node_lem n r h version (row_at n r) (form 6 k)

  pub test_is : (row_at n r).kind ≡ 7 → GuardNode t v (row_at n r)
  unfolding form_kept choose
  test_is k = guard_node t v (row_at n r) (form 7 k)

  pub argument_is : (row_at n r).kind ≡ 8 → ArgumentNode n r (row_at n r)
  unfolding form_kept choose
  argument_is k = argument_node n r h (row_at n r) (form 8 k)
