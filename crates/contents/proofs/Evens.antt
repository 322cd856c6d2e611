-- What the cells of an accepted type are, by its element, or by its base and own fields.
use mathlib.Core.Path.{◌≡◌, refl, sym, ◌∙◌, ap}
use mathlib.Core.Bool.{true}
use mathlib.Core.List.{List, [], ◌++◌, map, append-nil, append_assoc}
use mathlib.Core.Logic.{◌⊎◌, inl, inr}
use Prim.Native.Nat.{ℕ, zero, suc, ◌+◌, ◌-◌, ◌≤◌, ◌<◌}
use native.Mathlib.Numerals.{add-one}
use native.Mathlib.Omega.{arith}
use native.Mathlib.Decide.{dec_lt}
use borrow.Author.Tests.{eq-eqb, ne_eqb, lt-ltb, le-ltb}
use lib.Dec.{ltb, eqb}
use lib.ListN.{length, get_or, set, replicate, length-append, replicate-append-replicate}
use Rattle.prelude.specs.Choice.{choose}
use Rattle.prelude.specs.Cells.{Filled}
use Rattle.prelude.specs.Parts.{joined}
use Rattle.prelude.proofs.Cells.{filled_next, filled_at}
use Rattle.prelude.proofs.Each.{Each, Each.none, Each.more}
use Rattle.prelude.proofs.Rec.{rec_eq, below_low}
use Rattle.image.specs.declared.Row.{Row as TableRow}
use Rattle.image.specs.Rows.{row_at, rows_of}
use Rattle.shapes.specs.Forms.{Form, form_of, form, kind_in, is_single, of_base, own_types}
use Rattle.shapes.specs.Sizes.{size_of, layout_of}
use Rattle.shapes.proofs.Rows.{row_form, array_form, record_form, by_bases, own_step, own_end, own_each}
use Rattle.shapes.proofs.Accepted.{Based, Shape, TypesKept, based_on, by_shape, base_agree, fields_agree, field_low}
use Rattle.shapes.proofs.Singles.{single_form, single_small, single_layout}
use Rattle.shapes.proofs.ByKind.{Sort, Sort.a_single, Sort.an_array, Sort.a_record, sort_of, array_row, array_layout}
use Rattle.shapes.proofs.ByKind.{record_row, record_kinds}
use Rattle.shapes.proofs.Layouts.{layout_length, decide}
use Rattle.types.specs.Question.{TypesAccepted}
use Rattle.types.proofs.Accepted.{types_kept}
use Rattle.contents.specs.Kinds.{EMPTY, PARTS, MIXED, joint, joint_from, repeated, owned, even_by, even_of}

-- ---- a loop over the field rows below e, at row j

module _ (g : ℕ → ℕ) (f : List ℕ) (j e k : ℕ) where
  pub joint_step : {next : ℕ} → j < e → next ≡ joint k (g (row_at f j).a)
      → joint_from k (map g (own_types f j (e - j))) ≡ joint_from next (map g (own_types f (j + 1) (e - (j + 1))))
  unfolding joint_from
  joint_step h is = rw (own_step f j e h, is)

  pub joint_end : e ≤ j → joint_from k (map g (own_types f j (e - j))) ≡ k
  unfolding joint_from
  joint_end h = rw (own_end f j e h)

-- ---- a row's hang on lower rows alone

pub even_agree : {t f : List ℕ} {used r : ℕ} {x : Form} (s : ℕ) (g h : ℕ → ℕ) → Shape t f used r x
    → ((b : ℕ) → b < r → g b ≡ h b) → even_by f g s x ≡ even_by f h s x
unfolding even_by
even_agree {f = f} {used} {r} s g h shape same =
    by_shape (λ x. even_by f g s x ≡ even_by f h s x) shape
    (λ k. refl)
    (λ e n low. rw (same e low))
    (λ a c on rows own. rw (base_agree EMPTY g h on same, fields_agree f g h r used c own same))

even_is : (t f : List ℕ) (r : ℕ) {used : ℕ} → Shape t f used r (form t r)
    → even_of t f r ≡ even_by f (even_of t f) r (form t r)
unfolding even_of
even_is t f r shape =
    rec_eq EMPTY (λ even r. even_by f even r (form t r)) r
    ∙ even_agree r _ _ shape (λ b low. below_low EMPTY r _ b low)

-- ---- by the row's kind

module _ (t f : List ℕ) (kept : TypesKept t f) (r : ℕ) (low : r < rows_of t) where
  even_by_lem : {x : Form} → form t r ≡ x → even_of t f r ≡ even_by f (even_of t f) r x
  even_by_lem e = even_is t f r (kept.row r low).shape ∙ ap (λ x. even_by f (even_of t f) r x) e

  even_single : is_single t r ≡ true → even_of t f r ≡ kind_in t r
  unfolding even_by
  even_single one = even_by_lem (single_form t r one)

  even_array : (row_at t r).kind ≡ 3 → even_of t f r ≡ repeated r (row_at t r).b (even_of t f (row_at t r).a)
  unfolding even_by
  even_array kind = even_by_lem (array_form t r kind)

  even_record : (row_at t r).kind ≡ 4 → even_of t f r
      ≡ owned r (joint_from (of_base EMPTY (even_of t f) (row_at t r).a)
      (map (even_of t f) (own_types f (row_at t r).b (row_at t r).c)))
  unfolding even_by
  even_record kind = even_by_lem (record_form t r kind)

-- ---- lists of one kind

even_both : (k : ℕ) (l m : List ℕ) → l ≡ replicate (length l) k → m ≡ replicate (length m) k
    → l ++ m ≡ replicate (length (l ++ m)) k
even_both k l m p q =
    ap (λ (a : List ℕ). a ++ m) p ∙ ap (λ (b : List ℕ). replicate (length l) k ++ b) q
    ∙ replicate-append-replicate (length l) (length m) k
    ∙ ap (λ (n : ℕ). replicate n k) (sym (length-append l m))

even_many : (k n : ℕ) (l : List ℕ) → l ≡ replicate (length l) k
    → joined (replicate n l) ≡ replicate (length (joined (replicate n l))) k
unfolding joined
even_many k zero l p = refl
even_many k (suc n) l p = even_both k l (joined (replicate n l)) p (even_many k n l p)

none_many : (n : ℕ) {l : List ℕ} → l ≡ [] → joined (replicate n l) ≡ []
unfolding joined
none_many zero p = refl
none_many (suc n) p = rw p (none_many n refl)

once : (l : List ℕ) → joined (replicate 1 l) ≡ l
unfolding joined
once l = append-nil l

-- ---- what the numbers say

module _ (t f : List ℕ) where
  -- a layout is that of type row s, below row m, which is in several parts
  pub record Core (m s : ℕ) (l : List ℕ) : Type 0 where
    pub low : s < m
    pub own : even_of t f s ≡ PARTS + s
    pub layout : l ≡ layout_of t f s

  -- cells k have these kinds
  record Told (m k : ℕ) (l : List ℕ) : Type 0 where
    pub even : k < EMPTY → l ≡ replicate (length l) k
    pub none : k ≡ EMPTY → l ≡ []
    pub same : (s : ℕ) → k ≡ PARTS + s → s < 64 → Core m s l
    pub known : (k ≡ MIXED → ⊥) → k < PARTS + 64

  told_mixed : {m : ℕ} {l : List ℕ} → Told m MIXED l
  told_mixed = record {
    even = λ h. absurd (omega arith);
    none = λ e. absurd (omega arith);
    same = λ s e h. absurd (omega arith);
    known = λ h. absurd (h refl);
  }

  told_empty : {m : ℕ} → Told m EMPTY []
  told_empty = record {
    even = λ h. absurd (omega arith);
    none = λ e. refl;
    same = λ s e h. absurd (omega arith);
    known = λ h. omega arith;
  }

  told_low : {m k : ℕ} {l : List ℕ} → k < EMPTY → l ≡ replicate (length l) k → Told m k l
  told_low h e = record {
    even = λ low. e;
    none = λ is. absurd (omega arith);
    same = λ s is low. absurd (omega arith);
    known = λ no. omega arith;
  }

  told_more : {m n k : ℕ} {l : List ℕ} → m ≤ n → Told m k l → Told n k l
  told_more h p = record {
    even = p.even;
    none = p.none;
    same = λ s e low.
        let c = p.same s e low in
        let q = c.low in
        record { low = omega arith; own = c.own; layout = c.layout };
    known = p.known;
  }

  -- cells and then others
  told_joint : {m k j : ℕ} (l x : List ℕ) → Told m k l → Told m j x → Told m (joint k j) (l ++ x)
  unfolding joint choose
  told_joint {m} {k} {j} l x p q = go (decide k EMPTY) (decide j EMPTY) (decide k j) (dec_lt k EMPTY)
    where
      go : (k ≡ EMPTY) ⊎ (k ≡ EMPTY → ⊥) → (j ≡ EMPTY) ⊎ (j ≡ EMPTY → ⊥) → (k ≡ j) ⊎ (k ≡ j → ⊥) → Dec (k < EMPTY)
          → Told m (choose (eqb k EMPTY) j (choose (eqb j EMPTY) k (choose (eqb k j) (choose (ltb k EMPTY) k MIXED) MIXED))) (l ++ x)
      go (inl e) b c d = rw (eq-eqb k EMPTY e, p.none e) q
      go (inr e) (inl b) c d = rw (ne_eqb k EMPTY e, eq-eqb j EMPTY b, q.none b, append-nil l) p
      go (inr e) (inr b) (inl c) (yes d) =
          rw (ne_eqb k EMPTY e, ne_eqb j EMPTY b, eq-eqb k j c, lt-ltb k EMPTY d)
          (told_low d (even_both k l x (p.even d) (rw (← c) at (q.even (omega arith)))))
      go (inr e) (inr b) (inl c) (no d) =
          rw (ne_eqb k EMPTY e, ne_eqb j EMPTY b, eq-eqb k j c, le-ltb k EMPTY (omega arith)) told_mixed
      go (inr e) (inr b) (inr c) d = rw (ne_eqb k EMPTY e, ne_eqb j EMPTY b, ne_eqb k j c) told_mixed

  -- and then those of these types
  told_fields : {m k : ℕ} (l : List ℕ) {types : List ℕ} → Each (λ u. Told m (even_of t f u) (layout_of t f u)) types
      → Told m k l
      → Told m (joint_from k (map (even_of t f) types)) (l ++ joined (map (layout_of t f) types))
  unfolding joint_from joined
  told_fields l none p = rw (append-nil l) p
  told_fields {k = k} l (more {x = u} {l = types} here each) p =
      rw (← append_assoc l (layout_of t f u) (joined (map (layout_of t f) types)))
      (told_fields {k = joint k (even_of t f u)} (l ++ layout_of t f u) each (told_joint l (layout_of t f u) p here))

  told_base : {r a : ℕ} → Based t r a → ((b : ℕ) → b < r → Told r (even_of t f b) (layout_of t f b))
      → Told r (of_base EMPTY (even_of t f) a) (of_base [] (layout_of t f) a)
  told_base {r} {a} on each = by_bases (λ k l. Told r k l) a told_empty (λ b e. each b (based_on on e).0)

  -- ---- a row

  record Row (r : ℕ) : Type 0 where
    pub told : Told (suc r) (even_of t f r) (layout_of t f r)
    pub settled : even_of t f r ≡ MIXED → ⊥

  row_own : (r : ℕ) → r < 64 → even_of t f r ≡ PARTS + r → Row r
  row_own r few e = record {
    told = record {
      even = λ h. absurd (omega (arith, e));
      none = λ h. absurd (omega (arith, e));
      same = λ s h low.
          let q : s ≡ r = omega (arith, e, h) in
          rw q (record { low = omega arith; own = e; layout = refl });
      known = λ h. omega (arith, e);
    };
    settled = λ h. absurd (omega (arith, e, h));
  }

  row_as : {r k : ℕ} {l : List ℕ} → even_of t f r ≡ k → layout_of t f r ≡ l → Told (suc r) k l → (k ≡ MIXED → ⊥) → Row r
  row_as e d p q = record { told = rw (e, d) p; settled = rw e q }

  -- ---- a row of an accepted table

  module _ (few : rows_of t ≤ 64) (kept : TypesKept t f) (r : ℕ) (low : r < rows_of t)
      (ih : (b : ℕ) → b < r → Row b) where
    below : (b : ℕ) → b < r → Told r (even_of t f b) (layout_of t f b)
    below b h = told_more (omega arith) (ih b h).told

    row_array : (e n : ℕ) → e < r → even_of t f r ≡ repeated r n (even_of t f e)
        → layout_of t f r ≡ joined (replicate n (layout_of t f e)) → Row r
    unfolding repeated choose
    row_array e n h is layout = go (decide n 1) (dec_lt (even_of t f e) PARTS) (dec_lt (even_of t f e) EMPTY)
      where
        p : Told r (even_of t f e) (layout_of t f e)
        p = below e h

        go : (n ≡ 1) ⊎ (n ≡ 1 → ⊥) → Dec (even_of t f e < PARTS) → Dec (even_of t f e < EMPTY) → Row r
        go (inl one) b c =
            row_as (is ∙ rw (eq-eqb n 1 one)) (layout ∙ rw one (once (layout_of t f e))) (told_more (omega arith) p)
            (ih e h).settled
        go (inr several) (yes b) (yes c) =
            row_as (is ∙ rw (ne_eqb n 1 several, lt-ltb _ PARTS b)) layout
            (told_low c (even_many _ n (layout_of t f e) (p.even c))) (ih e h).settled
        go (inr several) (yes b) (no c) =
            let empty : even_of t f e ≡ EMPTY = omega arith in
            row_as (is ∙ rw (ne_eqb n 1 several, lt-ltb _ PARTS b) empty) (layout ∙ none_many n (p.none empty))
            told_empty (λ e. absurd (omega arith))
        go (inr several) (no b) c =
            row_own r (omega arith) (is ∙ rw (ne_eqb n 1 several, le-ltb (even_of t f e) PARTS (omega arith)))

    row_record : (a first count : ℕ) → Based t r a
        → ((i : ℕ) → first ≤ i → i < first + count → (row_at f i).a < r)
        → even_of t f r ≡ owned r (joint_from (of_base EMPTY (even_of t f) a) (map (even_of t f) (own_types f first count)))
        → layout_of t f r ≡ of_base [] (layout_of t f) a ++ joined (map (layout_of t f) (own_types f first count)) → Row r
    unfolding owned choose
    row_record a first count on lows is layout =
        go (decide (joint_from (of_base EMPTY (even_of t f) a) (map (even_of t f) (own_types f first count))) MIXED)
      where
        k : ℕ
        k = joint_from (of_base EMPTY (even_of t f) a) (map (even_of t f) (own_types f first count))

        go : (k ≡ MIXED) ⊎ (k ≡ MIXED → ⊥) → Row r
        go (inl mixed) = row_own r (omega arith) (is ∙ rw (eq-eqb k MIXED mixed))
        go (inr other) =
            row_as (is ∙ rw (ne_eqb k MIXED other)) layout
            (told_more (omega arith)
            (told_fields _ (own_each f first count (λ i x y. below (row_at f i).a (lows i x y))) (told_base on below)))
            other

    row_sort : Sort t r → Row r
    row_sort (a_single one) =
        row_as (even_single t f kept r low one) (single_layout t f kept r one) (told_low (single_small t r one) refl)
        (λ e. let small = single_small t r one in absurd (omega arith))
    row_sort (an_array kind) =
        row_array (row_at t r).a (row_at t r).b (array_row t f kept r low kind).low (even_array t f kept r low kind)
        (array_layout t f kept r low kind)
    row_sort (a_record kind) =
        let is = record_row t f kept r low kind in
        row_record (row_at t r).a (row_at t r).b (row_at t r).c is.on
        (λ i x y. field_low f r i (is.own.each i x y)) (even_record t f kept r low kind)
        (record_kinds t f kept r low kind)

  module _ (few : rows_of t ≤ 64) (kept : TypesKept t f) where
    rows_by : (n r : ℕ) → r < n → r < rows_of t → Row r
    rows_by zero r h low = absurd (omega arith)
    rows_by (suc n) r h low =
        row_sort few kept r low (λ b l. rows_by n b (omega arith) (omega arith)) (sort_of t f kept r low)

    row : (r : ℕ) → r < rows_of t → Row r
    row r low = rows_by (suc r) r (omega arith) low

    -- ---- what a type's number says

    module _ (r : ℕ) (low : r < rows_of t) where
      -- all cells are of one kind
      pub even_run : even_of t f r < EMPTY → layout_of t f r ≡ replicate (size_of t f r) (even_of t f r)
      even_run h =
          (row r low).told.even h ∙ ap (λ (n : ℕ). replicate n (even_of t f r)) (layout_length t f r)

      -- there are none
      pub even_none : even_of t f r ≡ EMPTY → layout_of t f r ≡ []
      even_none h = (row r low).told.none h

      -- they are those of a type in several parts
      pub even_core : PARTS ≤ even_of t f r → Core (suc r) (even_of t f r - PARTS) (layout_of t f r)
      even_core h =
          let most = (row r low).told.known (row r low).settled in
          (row r low).told.same (even_of t f r - PARTS) (omega arith) (omega arith)

      -- which is a record or an array, whose element is such a type, too
      module _ (own : even_of t f r ≡ PARTS + r) where
        pub own_array : ((row_at t r).kind ≡ 4 → ⊥) → (row_at t r).kind ≡ 3
        own_array other = go (sort_of t f kept r low)
          where
            go : Sort t r → (row_at t r).kind ≡ 3
            go (a_single one) =
                let small = single_small t r one in
                absurd (omega (arith, own, even_single t f kept r low one))
            go (an_array kind) = kind
            go (a_record kind) = absurd (other kind)

        pub own_element : (row_at t r).kind ≡ 3 → PARTS ≤ even_of t f (row_at t r).a
        unfolding repeated choose
        own_element kind = go (dec_lt (even_of t f (row_at t r).a) PARTS) (decide (row_at t r).b 1)
          where
            is : even_of t f r ≡ repeated r (row_at t r).b (even_of t f (row_at t r).a)
            is = even_array t f kept r low kind

            go : Dec (even_of t f (row_at t r).a < PARTS) → ((row_at t r).b ≡ 1) ⊎ ((row_at t r).b ≡ 1 → ⊥)
                → PARTS ≤ even_of t f (row_at t r).a
            go (yes h) (inl one) =
                let same : even_of t f r ≡ even_of t f (row_at t r).a = is ∙ rw (eq-eqb _ 1 one) in
                absurd (omega (arith, own, same))
            go (yes h) (inr several) =
                let same : even_of t f r ≡ even_of t f (row_at t r).a = is ∙ rw (ne_eqb _ 1 several, lt-ltb _ PARTS h) in
                absurd (omega (arith, own, same))
            go (no h) d = omega arith

-- ---- one row more of the table

pub fill_next : (t f old even : List ℕ) (r kind : ℕ) (row : TableRow) → TypesAccepted t f → r < rows_of t
    → r < length even → Filled 0 r (even_of t f) old even → row ≡ row_at t r
    → kind ≡ even_by f (λ u. get_or even u 0) r (form_of row) → Filled 0 (r + 1) (even_of t f) old (set even r kind)
fill_next t f old even r kind row accepted low room filled this is =
    let shape = ((types_kept t f accepted).row r low).shape in
    rw (add-one r)
    (filled_next 0 r (even_of t f) old even r kind filled (omega arith) room
    (is ∙ ap (λ x. even_by f (λ u. get_or even u 0) r x) (row_form t r this)
    ∙ even_agree r _ _ shape (λ b h. filled_at filled b h) ∙ sym (even_is t f r shape)))
