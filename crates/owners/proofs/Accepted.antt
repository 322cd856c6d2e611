-- What it says of a node that its variables are global or a procedure's own: the same of its children.
use mathlib.Core.Path.{◌≡◌, sym, ◌∙◌, ap}
use mathlib.Core.Bool.{true}
use mathlib.Core.List.{List}
use mathlib.Core.Logic.{◌⊎◌, inl, inr, ⊎_elim}
use Prim.Native.Nat.{ℕ, ◌+◌, ◌≤◌, ◌<◌}
use borrow.Author.Tests.{ltb-true, leb-true}
use Rattle.prelude.specs.Choice.{choose, ◌also◌}
use Rattle.prelude.proofs.Choice.{choose_cases, also_true}
use Rattle.prelude.proofs.Rec.{below_low, rec_eq}
use Rattle.image.specs.Rows.{row_at, rows_of}
use Rattle.frames.specs.Variables.{is_global}
use Rattle.frames.specs.Procedures.{first_variable}
use Rattle.nodes.proofs.Accepted.{NodeRow, NodeRow.is_constant, NodeRow.is_variable, NodeRow.is_field}
use Rattle.nodes.proofs.Accepted.{NodeRow.is_element_lem, NodeRow.is_guard, NodeRow.is_dyadic, NodeRow.is_monadic}
use Rattle.nodes.proofs.Accepted.{NodeRow.is_test, NodeRow.is_argument_lem}
use Rattle.nodes.proofs.Accepted.{NodesAccepted, nodes_kept}
use Rattle.owners.specs.Owners.{gather, gathered, own_variable, own_below}

-- ---- a variable

pub own_variable_lem : (v p : List ℕ) (q a : ℕ) → own_variable v p q a ≡ true
    → (is_global v a ≡ true) ⊎ ((first_variable v p q ≤ a) × (a < first_variable v p (q + 1)))
unfolding own_variable
own_variable_lem v p q a e =
    ⊎_elim (λ k. inl k.0)
    (λ k. let (low, high) = also_true _ _ k.1 in inr (leb-true _ _ low, ltb-true _ _ high))
    (choose_cases (is_global v a) e)

-- ---- a node, whose children stand in lower rows

module _ {X : Type 0} (t v n : List ℕ) (none : X) (one : ℕ → X) (both : X → X → X) (r : ℕ) (g h : ℕ → X)
    (same : (k : ℕ) → k < r → g k ≡ h k) where
  gather_agree : NodeRow t v n r
      → gather none one both g (row_at n r).kind (row_at n r) ≡ gather none one both h (row_at n r).kind (row_at n r)
  unfolding gather choose
  gather_agree (is_constant z k c) = rw k
  gather_agree (is_variable z k c) = rw k
  gather_agree (is_field z k c) = rw (k, same (row_at n r).a c.whole.low)
  gather_agree (is_element_lem z k c) = rw (k, same (row_at n r).a c.whole.low, same (row_at n r).b c.index.low)
  gather_agree (is_guard z k c) = rw k
  gather_agree (is_dyadic z k c) = rw (k, same (row_at n r).a c.left.low, same (row_at n r).b c.right.low)
  gather_agree (is_monadic z k c) = rw (k, same (row_at n r).a c.operand.low)
  gather_agree (is_test z k c) = rw k
  gather_agree (is_argument_lem z k c) = rw (k, same (row_at n r).a c.holds.low)

module _ {version : ℕ} (t v p n : List ℕ) (kept : NodesAccepted version t v n) (q r : ℕ) (h : r < rows_of n) where
  pub own_is : own_below v p n q r
      ≡ gather true (own_variable v p q) ◌also◌ (own_below v p n q) (row_at n r).kind (row_at n r)
  unfolding own_below gathered
  own_is =
      rec_eq true (λ child k. gather true (own_variable v p q) ◌also◌ child (row_at n k).kind (row_at n k)) r
      ∙ gather_agree t v n true (own_variable v p q) ◌also◌ r _ _ (λ k low. below_low true r _ k low)
      (nodes_kept t v n kept r h)

  module _ (own : own_below v p n q r ≡ true) where
    given : (k : ℕ) → (row_at n r).kind ≡ k
        → gather true (own_variable v p q) ◌also◌ (own_below v p n q) k (row_at n r) ≡ true
    given k kind =
        sym (ap (λ (j : ℕ). gather true (own_variable v p q) ◌also◌ (own_below v p n q) j (row_at n r)) kind)
        ∙ sym own_is
        ∙ own

    pub variable_own : (row_at n r).kind ≡ 1 → own_variable v p q (row_at n r).a ≡ true
    unfolding gather choose
    variable_own k = given 1 k

    pub field_own : (row_at n r).kind ≡ 2 → own_below v p n q (row_at n r).a ≡ true
    unfolding gather choose
    field_own k = given 2 k

    pub element_own : (row_at n r).kind ≡ 3
        → (own_below v p n q (row_at n r).a ≡ true) × (own_below v p n q (row_at n r).b ≡ true)
    unfolding gather choose
    element_own k = also_true _ _ (given 3 k)

    pub guard_own : (row_at n r).kind ≡ 4 → own_variable v p q (row_at n r).a ≡ true
    unfolding gather choose
    guard_own k = given 4 k

    pub dyadic_own : (row_at n r).kind ≡ 5
        → (own_below v p n q (row_at n r).a ≡ true) × (own_below v p n q (row_at n r).b ≡ true)
    unfolding gather choose
    dyadic_own k = also_true _ _ (given 5 k)

    pub monadic_own : (row_at n r).kind ≡ 6 → own_below v p n q (row_at n r).a ≡ true
    unfolding gather choose
    monadic_own k = given 6 k

    pub test_own : (row_at n r).kind ≡ 7 → own_variable v p q (row_at n r).a ≡ true
    unfolding gather choose
    test_own k = given 7 k

    pub argument_own : (row_at n r).kind ≡ 8 → own_below v p n q (row_at n r).a ≡ true
    unfolding gather choose
    argument_own k = given 8 k
