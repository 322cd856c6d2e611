-- Laws of types whose objects are single cells.
use mathlib.Core.Path.{◌≡◌, refl, ◌∙◌}
use mathlib.Core.Bool.{true, false}
use mathlib.Core.List.{List, [], ◌∷◌}
use Prim.Native.Nat.{ℕ, ◌≤◌, ◌<◌}
use native.Mathlib.Omega.{arith}
use native.Mathlib.Decide.{dec_lt}
use borrow.Author.Tests.{eqb-false, eq-eqb, ne_eqb, not-true}
use Rattle.image.specs.declared.Row.{Row}
use Rattle.image.specs.Rows.{row_at, rows_of}
use Rattle.image.proofs.Bytes.{row_there}
use Rattle.shapes.specs.Forms.{Form, Form.scalar, Form.array, Form.record_of, Form.no_form, form_of, form}
use Rattle.shapes.specs.Forms.{base_of, NO_KIND, kind_by, kind_in, is_single}
use Rattle.shapes.specs.Sizes.{size_by, size_of, layout_by, layout_of, fields_by, fields_of}
use Rattle.shapes.proofs.Rows.{form_scalar, form_array, form_record, form_none, by_any_form}
use Rattle.shapes.proofs.Accepted.{TypesKept, size_is, layout_is, fields_are}

-- ---- a row's kind

module _ (row : Row) where
  pub scalar_kind : row.kind < 3 → kind_by (form_of row) ≡ row.kind
  unfolding kind_by
  scalar_kind h = rw (form_scalar row h)

  pub no_scalar : 3 ≤ row.kind → kind_by (form_of row) ≡ NO_KIND
  unfolding kind_by
  no_scalar h = go (dec_lt 3 row.kind) (dec_lt 4 row.kind)
    where
      go : Dec (3 < row.kind) → Dec (4 < row.kind) → kind_by (form_of row) ≡ NO_KIND
      go (no l) d = rw (form_array row (omega arith))
      go (yes l) (no m) = rw (form_record row (omega arith))
      go (yes l) (yes m) = rw (form_none row m)

-- what has a kind is a scalar
kind_form : (x : Form) → (kind_by x ≡ NO_KIND → ⊥) → x ≡ scalar (kind_by x)
unfolding kind_by
kind_form (scalar kind) h = refl
kind_form (array element n) h = absurd (h refl)
kind_form (record_of base first count) h = absurd (h refl)
kind_form no_form h = absurd (h refl)

-- ---- a type row's

module _ (t : List ℕ) (r : ℕ) where
  pub single_kind : is_single t r ≡ true → kind_in t r ≡ NO_KIND → ⊥
  unfolding is_single
  single_kind e = eqb-false (kind_in t r) NO_KIND (not-true _ e)

  pub kind_single : (kind_in t r ≡ NO_KIND → ⊥) → is_single t r ≡ true
  unfolding is_single
  kind_single h = rw (ne_eqb (kind_in t r) NO_KIND h)

  pub no_single : kind_in t r ≡ NO_KIND → is_single t r ≡ false
  unfolding is_single
  no_single e = rw (eq-eqb (kind_in t r) NO_KIND e)

  pub single_form : is_single t r ≡ true → form t r ≡ scalar (kind_in t r)
  unfolding kind_in
  single_form e = kind_form (form t r) (single_kind e)

  -- it has no base
  pub single_base : is_single t r ≡ true → base_of (form t r) ≡ 0
  unfolding base_of
  single_base e = rw (single_form e)

  -- it is neither an array nor a record
  pub single_low : is_single t r ≡ true → (row_at t r).kind < 3
  single_low e = go (dec_lt (row_at t r).kind 3)
    where
      go : Dec ((row_at t r).kind < 3) → (row_at t r).kind < 3
      go (yes l) = l
      go (no l) = absurd (single_kind e (unfold kind_in form in no_scalar (row_at t r) (omega arith)))

  low_kind : (row_at t r).kind < 3 → kind_in t r ≡ (row_at t r).kind
  unfolding kind_in form
  low_kind h = scalar_kind (row_at t r) h

  pub low_single : (row_at t r).kind < 3 → is_single t r ≡ true
  low_single h = kind_single (λ e. absurd (omega (arith, low_kind h)))

  pub single_small : is_single t r ≡ true → kind_in t r < 3
  single_small e = let low = single_low e in omega (arith, low_kind low)

  pub single_there : is_single t r ≡ true → r < rows_of t
  single_there e = let low = single_low e in row_there t r (omega arith)

  pub kind_small : kind_in t r ≤ NO_KIND
  unfolding kind_in form kind_by
  kind_small =
      by_any_form (row_at t r) (λ x. kind_by x ≤ NO_KIND)
      (λ k low. omega arith) (λ e n. omega arith) (λ base first count. omega arith) (omega arith)

-- ---- of an accepted table

module _ (t f : List ℕ) (kept : TypesKept t f) (r : ℕ) (single : is_single t r ≡ true) where
  pub single_size : size_of t f r ≡ 1
  unfolding size_by
  single_size = size_is t f r (kept.row r (single_there t r single)).shape ∙ rw (single_form t r single)

  pub single_layout : layout_of t f r ≡ kind_in t r ∷ []
  unfolding layout_by
  single_layout = layout_is t f r (kept.row r (single_there t r single)).shape ∙ rw (single_form t r single)

  pub single_fields : fields_of t f r ≡ []
  unfolding fields_by
  single_fields = fields_are t f r (kept.row r (single_there t r single)).shape ∙ rw (single_form t r single)
