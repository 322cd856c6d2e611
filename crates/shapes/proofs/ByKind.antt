-- What a type row of an accepted table is, by its kind.
use mathlib.Core.Path.{◌≡◌, refl, sym, ◌∙◌}
use mathlib.Core.Bool.{true}
use mathlib.Core.List.{List, [], ◌++◌, map}
use Prim.Native.Nat.{ℕ, zero, suc, ◌+◌, ◌*◌, ◌≤◌, ◌<◌}
use native.Mathlib.Omega.{arith}
use native.Mathlib.Decide.{dec_lt}
use lib.ListN.{replicate}
use Rattle.prelude.specs.Parts.{joined, sum}
use Rattle.prelude.proofs.Each.{Each, Each.none, each_append}
use Rattle.prelude.proofs.Rec.{rec_eq}
use Rattle.image.specs.Rows.{row_at, rows_of, no_row}
use Rattle.image.proofs.Bytes.{row_missing}
use Rattle.shapes.specs.Forms.{Form, Form.no_form, form, base_of, of_base, own_types, is_single}
use Rattle.shapes.specs.Sizes.{size_by, size_of, layout_by, layout_of, fields_by, fields_of}
use Rattle.shapes.specs.Shapes.{used_below}
use Rattle.shapes.proofs.Rows.{form_none, no_record, row_form, array_form, record_form, of_no_base}
use Rattle.shapes.proofs.Rows.{by_base, own_none, own_each}
use Rattle.shapes.proofs.Accepted.{Shape, IsArray, IsRecord, TypesKept, array_is, record_is, by_shape}
use Rattle.shapes.proofs.Accepted.{based_on, made_of, size_is, layout_is}
use Rattle.shapes.proofs.Accepted.{fields_are, field_low}
use Rattle.shapes.proofs.Singles.{low_single}

-- a type that is no row has no fields
pub missing_fields : (t f : List ℕ) (r : ℕ) → rows_of t ≤ r → fields_of t f r ≡ []
unfolding fields_of form fields_by
missing_fields t f r h =
    rec_eq [] (λ fields k. fields_by f fields (form t k)) r
    ∙ rw (row_missing t r h, form_none no_row (omega arith))

no_shape : {t f : List ℕ} {used r : ℕ} {x : Form} → Shape t f used r x → x ≡ no_form → ⊥
no_shape shape =
    by_shape (λ x. x ≡ no_form → ⊥) shape
    (λ k e. let z : ◌≡◌ {A = ℕ} 0 1 = cc in absurd (omega arith))
    (λ m n low e. let z : ◌≡◌ {A = ℕ} 0 1 = cc in absurd (omega arith))
    (λ a c on rows own e. let z : ◌≡◌ {A = ℕ} 0 1 = cc in absurd (omega arith))

-- what there is
pub data Sort (t : List ℕ) (r : ℕ) : Type 0 where
  a_single : is_single t r ≡ true → Sort t r
  an_array : (row_at t r).kind ≡ 3 → Sort t r
  a_record : (row_at t r).kind ≡ 4 → Sort t r

module _ (t f : List ℕ) (kept : TypesKept t f) where
  pub sort_of : (r : ℕ) → r < rows_of t → Sort t r
  sort_of r low = go (dec_lt (row_at t r).kind 3) (dec_lt 3 (row_at t r).kind) (dec_lt 4 (row_at t r).kind)
    where
      go : Dec ((row_at t r).kind < 3) → Dec (3 < (row_at t r).kind) → Dec (4 < (row_at t r).kind) → Sort t r
      go (yes l) d e = a_single (low_single t r l)
      go (no l) (no m) e = an_array (omega arith)
      go (no l) (yes m) (no h) = a_record (omega arith)
      go (no l) (yes m) (yes h) =
          absurd (no_shape (kept.row r low).shape (sym (row_form t r refl) ∙ form_none (row_at t r) h))

  module _ (r : ℕ) (low : r < rows_of t) where
    -- an array
    module _ (kind : (row_at t r).kind ≡ 3) where
      pub array_row : IsArray r (row_at t r).a (row_at t r).b
      array_row = array_is (kept.row r low).shape (array_form t r kind)

      pub array_size : size_of t f r ≡ (row_at t r).b * size_of t f (row_at t r).a
      unfolding size_by
      array_size = size_is t f r (kept.row r low).shape ∙ rw (array_form t r kind)

      pub array_layout : layout_of t f r ≡ joined (replicate (row_at t r).b (layout_of t f (row_at t r).a))
      unfolding layout_by
      array_layout = layout_is t f r (kept.row r low).shape ∙ rw (array_form t r kind)

    -- a record: its base, then its own fields
    module _ (kind : (row_at t r).kind ≡ 4) where
      pub record_row : IsRecord t f (used_below t r) r (row_at t r).a (row_at t r).b (row_at t r).c
      record_row = record_is (kept.row r low).shape (record_form t r kind)

      pub record_size : size_of t f r
          ≡ of_base 0 (size_of t f) (row_at t r).a + sum (map (size_of t f) (own_types f (row_at t r).b (row_at t r).c))
      unfolding size_by
      record_size = size_is t f r (kept.row r low).shape ∙ rw (record_form t r kind)

      pub record_kinds : layout_of t f r
          ≡ of_base [] (layout_of t f) (row_at t r).a
          ++ joined (map (layout_of t f) (own_types f (row_at t r).b (row_at t r).c))
      unfolding layout_by
      record_kinds = layout_is t f r (kept.row r low).shape ∙ rw (record_form t r kind)

      pub record_fields : fields_of t f r
          ≡ of_base [] (fields_of t f) (row_at t r).a ++ own_types f (row_at t r).b (row_at t r).c
      unfolding fields_by
      record_fields = fields_are t f r (kept.row r low).shape ∙ rw (record_form t r kind)

    pub no_fields : ((row_at t r).kind ≡ 4 → ⊥) → fields_of t f r ≡ []
    no_fields other =
        let shape = (kept.row r low).shape in
        let (base, count) = rw (row_form t r refl) at (no_record (row_at t r) other) in
        fields_are t f r shape
        ∙ (made_of shape).fields (fields_of t f)
        ∙ rw (base, count, of_no_base [] (fields_of t f) 0 refl) (own_none f (used_below t r))

    -- a base is a record in a lower row
    pub base_record : {b : ℕ} → base_of (form t r) ≡ suc b → (b < r) × ((row_at t b).kind ≡ 4)
    base_record e = based_on (made_of (kept.row r low).shape).on e

  -- the types of fields stand in lower rows
  fields_by_lem : (n m r : ℕ) → r < n → r ≤ m → r < rows_of t → Each (λ u. u < m) (fields_of t f r)
  fields_by_lem zero m r h most low = absurd (omega arith)
  fields_by_lem (suc n) m r h most low =
      let shape = (kept.row r low).shape in
      let made = made_of shape in
      rw (fields_are t f r shape, made.fields (fields_of t f))
      (each_append
      (by_base (λ l. Each (λ u. u < m) l) (base_of (form t r)) none
      (λ b e. let less = (based_on made.on e).0 in fields_by_lem n m b (omega arith) (omega arith) (omega arith)))
      (own_each f (used_below t r) _
      (λ j least less. let k = field_low f r j (made.own.each j least less) in omega arith)))

  pub fields_low : (r : ℕ) → r < rows_of t → Each (λ u. u < r) (fields_of t f r)
  fields_low r low = fields_by_lem (suc r) r r (omega arith) (omega arith) low
