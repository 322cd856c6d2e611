-- A plan that question 4 filled has every field at its offset.
use Rattle.relations.specs.Fields.{field_at, field_of, planned_own, planned_field}
use Rattle.relations.specs.declared.FieldAt.{FieldAt}
use Rattle.std.specs.Prelude.{Option, Some, None}
use mathlib.Core.Path.{◌≡◌, refl, sym, ◌∙◌, ap}
use mathlib.Core.List.{List, [], ◌∷◌, ◌++◌, map}
use mathlib.Core.Logic.{◌⊎◌, inl, inr, ⊎_elim}
use Prim.Native.Nat.{ℕ, zero, suc, ◌+◌, ◌-◌, ◌≤◌, ◌<◌}
use native.Mathlib.Omega.{arith}
use native.Mathlib.Decide.{dec_lt}
use borrow.Author.Tests.{ltb-true, lt-ltb, le-ltb}
use lib.Dec.{ltb}
use lib.ListN.{length, get_or, take, length-append, get_or-append}
use lib.Seq.{take-append-le, take-append-add, get_or-append-add}
use Rattle.prelude.specs.Choice.{choose}
use Rattle.prelude.specs.Parts.{sum, Nth, Nth.here, Nth.there, Part}
use Rattle.prelude.proofs.Choice.{choose_yes, choose_no, choose_cases}
use Rattle.prelude.proofs.Parts.{map_append}
use Rattle.image.specs.Rows.{row_at, rows_of}
use Rattle.image.proofs.Bytes.{row_missing}
use Rattle.types.specs.Question.{TypesAccepted}
use Rattle.types.proofs.Accepted.{types_kept}
use Rattle.shapes.specs.Forms.{Form.record_of, form, of_base, own_types}
use Rattle.shapes.specs.Sizes.{size_of, fields_of, offset_of}
use Rattle.types.specs.Plan.{inherited_of, own_offset, Plan}
use Rattle.shapes.proofs.Rows.{of_record, record_form, less_one, of_no_base, of_row, own_length, own_take, own_at}
use Rattle.shapes.proofs.Accepted.{Based, Based.on_base, TypesKept}
use Rattle.shapes.proofs.ByKind.{missing_fields, record_row, record_fields, no_fields}
use Rattle.shapes.proofs.Layouts.{length_based, offset_is, base_size, decide}
use Rattle.relations.proofs.Climbing.{planned_other, planned_own_lem, planned_low}
use Rattle.sizes.specs.Cells.{INHERITED, OFFSETS}

-- ---- a field in a list of types

abbrev field_in : (ℕ → ℕ) → List ℕ → ℕ → Option FieldAt
field_in size l n = choose (ltb n (length l)) (Some (field_at (sum (map size (take n l))) (get_or l n 0))) None

sum_append : (a b : List ℕ) → sum (a ++ b) ≡ sum a + sum b
unfolding sum
sum_append [] b = omega arith
sum_append (x ∷ a) b = omega (arith, sum_append a b)

module _ (size : ℕ → ℕ) (l m : List ℕ) where
  field_front : (n : ℕ) → n < length l → field_in size (l ++ m) n ≡ field_in size l n
  field_front n h =
      let whole : n < length (l ++ m) = omega (arith, length-append l m) in
      choose_yes _ _ _ (lt-ltb n (length (l ++ m)) whole)
      ∙ (rw (take-append-le n l m (omega arith), get_or-append l m 0 n h))
      ∙ sym (choose_yes _ _ _ (lt-ltb n (length l) h))

  field_back : (j : ℕ) → j < length m
      → field_in size (l ++ m) (length l + j) ≡ Some (field_at (sum (map size l) + sum (map size (take j m))) (get_or m j 0))
  field_back j h =
      let whole : length l + j < length (l ++ m) = omega (arith, length-append l m) in
      let place : sum (map size (take (length l + j) (l ++ m))) ≡ sum (map size l) + sum (map size (take j m)) =
      rw (take-append-add l m j, map_append size l (take j m)) (sum_append (map size l) (map size (take j m))) in
      choose_yes _ _ _ (lt-ltb (length l + j) (length (l ++ m)) whole) ∙ rw (place, get_or-append-add l m j 0)

  field_past : (j : ℕ) → length m ≤ j → field_in size (l ++ m) (length l + j) ≡ None
  field_past j h =
      let past : length (l ++ m) ≤ length l + j = omega (arith, length-append l m) in
      choose_no _ _ _ (le-ltb (length l + j) (length (l ++ m)) past)

-- ---- a type's fields

field_in_lem : (t f : List ℕ) (r n : ℕ) → field_of t f r n ≡ field_in (size_of t f) (fields_of t f r) n
unfolding field_of
field_in_lem t f r n = rw (offset_is t f r n)

-- two fields that are one begin at one place and are of one type
pub same_field : {a b c d : ℕ} → Some (field_at a b) ≡ Some (field_at c d) → (a ≡ c) × (b ≡ d)
same_field {a} {b} {c} {d} e =
    let one : field_at a b ≡ field_at c d = cc in
    (ap (λ (y : FieldAt). y.offset) one, ap (λ (y : FieldAt). y.declared) one)

field_found : (t f : List ℕ) (r n at x : ℕ) → field_of t f r n ≡ Some (field_at at x)
    → (n < length (fields_of t f r)) × (Some (field_at (offset_of t f r n) (get_or (fields_of t f r) n 0)) ≡ Some (field_at at x))
unfolding field_of
field_found t f r n at x e =
    ⊎_elim
    (λ found. (ltb-true _ _ found.0, found.1))
    (λ none. let same = none.1 in let z : ◌≡◌ {A = ℕ} 0 1 = cc in absurd (omega arith))
    (choose_cases _ e)

nth_cell : {X : Type 0} (l : List X) (n : ℕ) (d : X) → n < length l → Nth l n (get_or l n d)
nth_cell [] n d h = absurd (omega arith)
nth_cell (x ∷ l) zero d h = here
nth_cell (x ∷ l) (suc n) d h = there (nth_cell l n d (omega arith))

-- a field that exists stands in the list of its record's fields: where it begins, and its type
pub field_nth : (t f : List ℕ) (r n at x : ℕ) → field_of t f r n ≡ Some (field_at at x)
    → (at ≡ offset_of t f r n) × Nth (fields_of t f r) n x
field_nth t f r n at x e =
    let found = field_found t f r n at x e in
    let same = same_field found.1 in
    (sym same.0, rw same.1 at (nth_cell (fields_of t f r) n 0 found.0))

-- what begins with a type's fields has them too, at the same places
pub field_more : (t f : List ℕ) (r u n : ℕ) {at x : ℕ} → Part (fields_of t f r) 0 (fields_of t f u)
    → field_of t f u n ≡ Some (field_at at x) → field_of t f r n ≡ Some (field_at at x)
field_more t f r u n {at} {x} p e =
    field_in_lem t f r n
    ∙ ap (λ l. field_in (size_of t f) l n) p.seen
    ∙ field_front (size_of t f) (fields_of t f u) p.rest n (field_found t f u n at x e).0
    ∙ sym (field_in_lem t f u n)
    ∙ e

-- ---- an accepted table and its plan

module _ (t f plan : List ℕ) (kept : TypesKept t f) (p : Plan t f (rows_of t) plan) where
  base_count : (a : ℕ) → of_base 0 (λ b. length (fields_of t f b)) a ≡ length (of_base [] (fields_of t f) a)
  base_count a = sym (length_based (λ b. length (fields_of t f b)) (fields_of t f) (λ b. refl) a)

  -- an own field
  module _ (r a b c : ℕ) (low : r < rows_of t) (is : form t r ≡ record_of a b c) (on : Based t r a) where
    abbrev inner : List ℕ
    inner = of_base [] (fields_of t f) a

    own_field : (j : ℕ) → planned_own f plan b c j ≡ field_in (size_of t f) (inner ++ own_types f b c) (length inner + j)
    unfolding planned_own own_offset
    own_field j = go (dec_lt j c)
      where
        go : Dec (j < c)
            → choose (ltb j c) (Some (field_at (get_or plan (OFFSETS + (b + j)) 0) (row_at f (b + j)).a)) None
            ≡ field_in (size_of t f) (inner ++ own_types f b c) (length inner + j)
        go (yes h) =
            choose_yes _ _ _ (lt-ltb j c h)
            ∙ (rw (
              p.offset r a b c j low is h,
              ← own_at f j c b h,
              ← base_size t f kept low on,
              ← own_take f j c b (omega arith),
            ))
            ∙ sym (field_back (size_of t f) inner (own_types f b c) j (rw (own_length f b c) h))
        go (no h) =
            choose_no _ _ _ (le-ltb j c (omega arith))
            ∙ sym (field_past (size_of t f) inner (own_types f b c) j (rw (own_length f b c) (omega arith)))

  inherited_of_lem : (r : ℕ) → r < rows_of t → (row_at t r).kind ≡ 4
      → get_or plan (INHERITED + r) 0 ≡ length (of_base [] (fields_of t f) (row_at t r).a)
  unfolding inherited_of
  inherited_of_lem r low kind = p.inherited r low ∙ rw (of_record (record_form t r kind)).0 (base_count (row_at t r).a)

  -- an inherited field is the base's
  up_field : (n r a : ℕ) → r < rows_of t → Based t r a → n < length (of_base [] (fields_of t f) a) → (own : List ℕ)
      → ((b : ℕ) → b < r → planned_field t f plan n b ≡ field_in (size_of t f) (fields_of t f b) n)
      → (0 < a) × (a - 1 < r) × (planned_field t f plan n (a - 1) ≡ field_in (size_of t f) (of_base [] (fields_of t f) a ++ own) n)
  up_field n r zero low on less own ih = absurd (omega (arith, ap length (of_no_base [] (fields_of t f) 0 refl)))
  up_field n r (suc b) low (on_base l kind) less own ih =
      let base : of_base [] (fields_of t f) (suc b) ≡ fields_of t f b = of_row [] (fields_of t f) refl in (
        omega arith,
        omega arith,
        rw (less_one b, base) (ih b l ∙ sym (field_front (size_of t f) (fields_of t f b) own n (rw base at less))),
      )

  field_by : (m n r : ℕ) → r < m → r < rows_of t → planned_field t f plan n r ≡ field_in (size_of t f) (fields_of t f r) n
  field_by zero n r h low = absurd (omega arith)
  field_by (suc m) n r h low = go (decide (row_at t r).kind 4) (λ b l. field_by m n b (omega arith) (omega arith))
    where
      found : (kind : (row_at t r).kind ≡ 4) → Dec (n < length (of_base [] (fields_of t f) (row_at t r).a))
          → ((b : ℕ) → b < r → planned_field t f plan n b ≡ field_in (size_of t f) (fields_of t f b) n)
          → planned_field t f plan n r ≡ field_in (size_of t f) (of_base [] (fields_of t f) (row_at t r).a ++ own_types f (row_at t r).b (row_at t r).c) n
      found kind (yes less) ih =
          let on = (record_row t f kept r low kind).on in
          let (some, lower, same) = up_field n r (row_at t r).a low on less (own_types f (row_at t r).b (row_at t r).c) ih in
          planned_low t f plan n r refl kind (rw (inherited_of_lem r low kind) less) some lower ∙ same
      found kind (no more) ih =
          let on = (record_row t f kept r low kind).on in
          let inh = inherited_of_lem r low kind in
          let q : length (of_base [] (fields_of t f) (row_at t r).a) + (n - length (of_base [] (fields_of t f) (row_at t r).a)) ≡ n = omega arith in
          planned_own_lem t f plan n r refl kind (omega arith)
          ∙ ap (λ k. planned_own f plan (row_at t r).b (row_at t r).c (n - k)) inh
          ∙ own_field r (row_at t r).a (row_at t r).b (row_at t r).c low (record_form t r kind) on
          (n - length (of_base [] (fields_of t f) (row_at t r).a))
          ∙ ap (λ k. field_in (size_of t f) (of_base [] (fields_of t f) (row_at t r).a ++ own_types f (row_at t r).b (row_at t r).c) k) q

      go : ((row_at t r).kind ≡ 4) ⊎ ((row_at t r).kind ≡ 4 → ⊥) → ((b : ℕ) → b < r → planned_field t f plan n b ≡ field_in (size_of t f) (fields_of t f b) n)
          → planned_field t f plan n r ≡ field_in (size_of t f) (fields_of t f r) n
      go (inl kind) ih =
          found kind (dec_lt n (length (of_base [] (fields_of t f) (row_at t r).a))) ih
          ∙ ap (λ l. field_in (size_of t f) l n) (sym (record_fields t f kept r low kind))
      go (inr other) ih =
          planned_other t f plan n r refl other
          ∙ sym (ap (λ l. field_in (size_of t f) l n) (no_fields t f kept r low other)
          ∙ choose_no _ _ _ (le-ltb n 0 (omega arith)))

  -- the function `field` finds just the field that there is, where it begins and its type
  pub field_is : (r n : ℕ) → r < rows_of t → planned_field t f plan n r ≡ field_of t f r n
  field_is r n low = field_by (suc r) n r (omega arith) low ∙ sym (field_in_lem t f r n)

-- ---- every type

-- a type that is no row has no field
no_field : (t f : List ℕ) (r n : ℕ) → rows_of t ≤ r → field_of t f r n ≡ None
no_field t f r n h =
    field_in_lem t f r n ∙ rw (missing_fields t f r h) (choose_no _ _ _ (le-ltb n 0 (omega arith)))

-- in a plan that question 4 filled, `field` finds just the fields that there are
pub field_known : (t f plan : List ℕ) → TypesAccepted t f → Plan t f (rows_of t) plan → (r n : ℕ)
    → planned_field t f plan n r ≡ field_of t f r n
field_known t f plan kept p r n = go (dec_lt r (rows_of t))
  where
    go : Dec (r < rows_of t) → planned_field t f plan n r ≡ field_of t f r n
    go (yes h) = field_is t f plan (types_kept t f kept) p r n h
    go (no h) =
        let past : rows_of t ≤ r = omega arith in
        let other : (row_at t r).kind ≡ 4 → ⊥ = rw (row_missing t r past) (λ e. absurd (omega arith)) in
        planned_other t f plan n r refl other ∙ sym (no_field t f r n past)
