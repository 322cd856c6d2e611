-- Laws of a node's type from those of its children.
use Rattle.relations.specs.declared.FieldAt.{FieldAt}
use Rattle.std.specs.Prelude.{Option, Some, None}
use mathlib.Core.Path.{◌≡◌, ◌∙◌}
use mathlib.Core.List.{List}
use mathlib.Core.Logic.{◌⊎◌, inl, inr}
use Prim.Native.Nat.{ℕ}
use borrow.Author.Tests.{eq-eqb, ne_eqb}
use Rattle.prelude.proofs.Choice.{choose_yes, choose_no}
use Rattle.image.specs.declared.Row.{Row}
use Rattle.image.specs.Rows.{row_at}
use Rattle.typing.specs.Typing.{typed, field_type, element_type}

pub typed_none : (x : Option ℕ) (next : ℕ → Option ℕ) → x ≡ None → typed x next ≡ None
unfolding typed
typed_none x next e = rw e

pub typed_known : (x : Option ℕ) (next : ℕ → Option ℕ) {r : ℕ} → x ≡ Some r → typed x next ≡ next r
unfolding typed
typed_known x next e = rw e

pub missing_type : (x : Option FieldAt) → x ≡ None → field_type x ≡ None
unfolding field_type
missing_type x e = rw e

pub field_type_lem : (a : Option FieldAt) {x : FieldAt} → a ≡ Some x → field_type a ≡ Some x.declared
unfolding field_type
field_type_lem a e = rw e

module _ (t : List ℕ) (r index : ℕ) (row : Row) (this_row : row ≡ row_at t r) where
  pub no_element : ((row.kind ≡ 3) × (index ≡ 1 → ⊥)) ⊎ (row.kind ≡ 3 → ⊥) → element_type (row_at t r) index ≡ None
  unfolding element_type
  no_element (inl (kind, h)) =
      rw (← this_row) (choose_yes _ _ _ (eq-eqb row.kind 3 kind) ∙ choose_no _ _ _ (ne_eqb index 1 h))
  no_element (inr h) = rw (← this_row) (choose_no _ _ _ (ne_eqb row.kind 3 h))

  pub element_type_lem : row.kind ≡ 3 → index ≡ 1 → element_type (row_at t r) index ≡ Some row.a
  unfolding element_type
  element_type_lem kind h =
      rw (← this_row) (choose_yes _ _ _ (eq-eqb row.kind 3 kind) ∙ choose_yes _ _ _ (eq-eqb index 1 h))
