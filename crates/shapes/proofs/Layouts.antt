-- Laws of layouts: as long as the size, and made of the parts' layouts.
use mathlib.Core.Path.{◌≡◌, refl, sym, ◌∙◌, ap}
use mathlib.Core.Bool.{Bool, true, false}
use mathlib.Core.Logic.{◌⊎◌, inl, inr}
use mathlib.Core.List.{List, [], ◌∷◌, ◌++◌, map}
use Prim.Native.Nat.{ℕ, zero, suc, ◌*◌, ◌≤◌, ◌<◌}
use native.Mathlib.Nat.{zero-mul, suc-mul}
use native.Mathlib.Omega.{arith}
use native.Mathlib.Decide.{dec_lt}
use borrow.Author.Tests.{eqb-true, eqb-false}
use lib.Dec.{eqb}
use lib.ListN.{length, take, replicate, length-append}
use Rattle.prelude.specs.Parts.{joined, sum, Nth, Part}
use Rattle.prelude.proofs.Parts.{nth_nil, nth_map, nth_replicate, part_joined, joined_replicate, joined_map_append, take_map}
use Rattle.prelude.proofs.Each.{Each, Each.none, Each.more, each_append, each_repeated, each_joined}
use Rattle.prelude.proofs.Rec.{rec_rel, rec_ind}
use Rattle.image.specs.declared.Row.{Row}
use Rattle.image.specs.Rows.{row_at, rows_of}
use Rattle.shapes.specs.Forms.{Form, Form.scalar, Form.array, Form.record_of, Form.no_form, form_of, form, of_base}
use Rattle.shapes.specs.Forms.{own_types}
use Rattle.shapes.specs.Sizes.{size_by, size_of, layout_by, layout_of, fields_of, offset_of}
use Rattle.shapes.proofs.Rows.{by_any_form, by_base, by_bases}
use Rattle.shapes.proofs.Accepted.{Based, TypesKept, based_on}
use Rattle.shapes.proofs.ByKind.{array_layout, record_row, record_kinds, record_fields, no_fields}

-- ---- a layout is as long as the size

length_replicated : {X : Type 0} (n : ℕ) (x : List X) → length (joined (replicate n x)) ≡ n * length x
unfolding joined
length_replicated zero x = sym (zero-mul (length x))
length_replicated (suc n) x =
    omega (arith, length-append x (joined (replicate n x)), length_replicated n x, suc-mul n (length x))

length_joined : {X : Type 0} (size : ℕ → ℕ) (layout : ℕ → List X) → ((k : ℕ) → length (layout k) ≡ size k)
    → (l : List ℕ) → length (joined (map layout l)) ≡ sum (map size l)
unfolding joined sum
length_joined size layout h [] = refl
length_joined size layout h (k ∷ l) =
    omega (arith, length-append (layout k) (joined (map layout l)), h k, length_joined size layout h l)

pub length_based : {X : Type 0} (size : ℕ → ℕ) (layout : ℕ → List X) → ((k : ℕ) → length (layout k) ≡ size k) → (a : ℕ)
    → length (of_base [] layout a) ≡ of_base 0 size a
length_based size layout h a = by_bases (λ l n. length l ≡ n) a refl (λ b e. h b)

length_by : (f : List ℕ) (size : ℕ → ℕ) (layout : ℕ → List ℕ) → ((k : ℕ) → length (layout k) ≡ size k) → (x : Form)
    → length (layout_by f layout x) ≡ size_by f size x
unfolding layout_by size_by
length_by f size layout h (scalar kind) = refl
length_by f size layout h (array element n) = length_replicated n (layout element) ∙ rw (h element)
length_by f size layout h (record_of base first count) =
    omega (arith, length-append (of_base [] layout base) (joined (map layout (own_types f first count))), length_based size layout h base, length_joined size layout h (own_types f first count))
length_by f size layout h no_form = refl

pub layout_length : (t f : List ℕ) (r : ℕ) → length (layout_of t f r) ≡ size_of t f r
unfolding layout_of size_of
layout_length t f r =
    rec_rel [] 0 (λ layout r. layout_by f layout (form t r)) (λ size r. size_by f size (form t r)) (λ k x y. length x ≡ y)
    (λ k g g' low high. length_by f g' g (λ j. both g g' k low high j (dec_lt j k)) (form t k)) r
  where
    both : (g : ℕ → List ℕ) (g' : ℕ → ℕ) (k : ℕ) → ((j : ℕ) → j < k → length (g j) ≡ g' j)
        → ((j : ℕ) → k ≤ j → (g j ≡ []) × (g' j ≡ 0)) → (j : ℕ) → Dec (j < k) → length (g j) ≡ g' j
    both g g' k low high j (yes h) = low j h
    both g g' k low high j (no h) = let (p, q) = high j (omega arith) in rw (p, q)

-- ---- a layout is made of scalar kinds

module _ {P : ℕ → Type 0} (scalars : (k : ℕ) → k < 3 → P k) where
  base_kinds : (layout : ℕ → List ℕ) → ((r : ℕ) → Each P (layout r)) → (a : ℕ) → Each P (of_base [] layout a)
  base_kinds layout h a = by_base (λ l. Each P l) a none (λ b e. h b)

  kinds_by : (f : List ℕ) (layout : ℕ → List ℕ) → ((r : ℕ) → Each P (layout r)) → (row : Row)
      → Each P (layout_by f layout (form_of row))
  unfolding layout_by
  kinds_by f layout h row =
      by_any_form row (λ x. Each P (layout_by f layout x))
      (λ k low. more (scalars k low) none)
      (λ e n. each_repeated n (h e))
      (λ base first count. each_append (base_kinds layout h base) (each_joined layout h (own_types f first count)))
      none

  pub layout_kinds : (t f : List ℕ) (r : ℕ) → Each P (layout_of t f r)
  unfolding layout_of form
  layout_kinds t f r =
      rec_ind [] (λ layout k. layout_by f layout (form t k)) (λ k l. Each P l)
      (λ k layout low high. kinds_by f layout (λ j. every layout k low high j (dec_lt j k)) (row_at t k)) r
    where
      every : (layout : ℕ → List ℕ) (k : ℕ) → ((j : ℕ) → j < k → Each P (layout j)) → ((j : ℕ) → k ≤ j → layout j ≡ [])
          → (j : ℕ) → Dec (j < k) → Each P (layout j)
      every layout k low high j (yes h) = low j h
      every layout k low high j (no h) = rw (high j (omega arith)) none

-- ---- parts of an accepted table's layouts

-- a field begins behind the fields before it
pub offset_is : (t f : List ℕ) (r n : ℕ) → offset_of t f r n ≡ sum (map (size_of t f) (take n (fields_of t f r)))
unfolding offset_of
offset_is t f r n = refl

pub decide : (a b : ℕ) → (a ≡ b) ⊎ (a ≡ b → ⊥)
decide a b = go (eqb a b) refl
  where
    go : (x : Bool) → eqb a b ≡ x → (a ≡ b) ⊎ (a ≡ b → ⊥)
    go true e = inl (eqb-true a b e)
    go false e = inr (eqb-false a b e)

module _ (t f : List ℕ) (kept : TypesKept t f) where
  -- a record's layout is its fields' layouts, one after the other
  record_layout : (n r : ℕ) → r < n → r < rows_of t → (row_at t r).kind ≡ 4
      → layout_of t f r ≡ joined (map (layout_of t f) (fields_of t f r))
  record_layout zero r h low kind = absurd (omega arith)
  record_layout (suc n) r h low kind =
      let own = own_types f (row_at t r).b (row_at t r).c in
      let on = (record_row t f kept r low kind).on in
      let nothing : [] ≡ joined (map (layout_of t f) []) = unfold joined in refl in
      record_kinds t f kept r low kind
      ∙ ap (λ l. l ++ joined (map (layout_of t f) own))
      (by_bases (λ x y. x ≡ joined (map (layout_of t f) y)) (row_at t r).a nothing
      (λ b e. let (less, is) = based_on on e in record_layout n b (omega arith) (omega arith) is))
      ∙ sym (joined_map_append (layout_of t f) (of_base [] (fields_of t f) (row_at t r).a) own)
      ∙ ap (λ l. joined (map (layout_of t f) l)) (sym (record_fields t f kept r low kind))

  -- a record's size is its fields'
  pub size_fields : (r : ℕ) → r < rows_of t → (row_at t r).kind ≡ 4
      → sum (map (size_of t f) (fields_of t f r)) ≡ size_of t f r
  size_fields r low kind =
      sym (length_joined (size_of t f) (layout_of t f) (layout_length t f) (fields_of t f r))
      ∙ ap length (sym (record_layout (suc r) r (omega arith) low kind))
      ∙ layout_length t f r

  pub base_size : {r a : ℕ} → r < rows_of t → Based t r a
      → sum (map (size_of t f) (of_base [] (fields_of t f) a)) ≡ of_base 0 (size_of t f) a
  base_size {a = a} low on =
      let nothing : sum (map (size_of t f) []) ≡ 0 = unfold sum in refl in
      by_bases (λ l n. sum (map (size_of t f) l) ≡ n) a nothing
      (λ b e. let (less, kind) = based_on on e in size_fields b (omega arith) kind)

  -- a field's layout is the part of its record's layout at the field's offset
  pub field_layout : (r n u : ℕ) → r < rows_of t → Nth (fields_of t f r) n u → Part (layout_of t f r) (offset_of t f r n) (layout_of t f u)
  field_layout r n u low h = go (decide (row_at t r).kind 4)
    where
      go : ((row_at t r).kind ≡ 4) ⊎ ((row_at t r).kind ≡ 4 → ⊥) → Part (layout_of t f r) (offset_of t f r n) (layout_of t f u)
      go (inl kind) =
          rw (
            offset_is t f r n,
            record_layout (suc r) r (omega arith) low kind,
            ← length_joined (size_of t f) (layout_of t f) (layout_length t f) (take n (fields_of t f r)),
            ← take_map (layout_of t f) n (fields_of t f r),
          )
          (part_joined (nth_map (layout_of t f) h))
      go (inr other) = absurd (nth_nil (rw (no_fields t f kept r low other) at h))

  -- an element's layout is the part of its array's layout at the element's place
  pub element_layout : (r i : ℕ) → r < rows_of t → (row_at t r).kind ≡ 3 → i < (row_at t r).b
      → Part (layout_of t f r) (i * size_of t f (row_at t r).a) (layout_of t f (row_at t r).a)
  element_layout r i low kind h =
      let n = (row_at t r).b in
      let one = layout_of t f (row_at t r).a in
      let place : length (joined (take i (replicate n one))) ≡ i * size_of t f (row_at t r).a =
      joined_replicate i n one (omega arith) ∙ ap (λ k. i * k) (layout_length t f (row_at t r).a) in
      rw (array_layout t f kept r low kind, ← place) (part_joined (nth_replicate n i one h))
