-- What the rule says of an accepted row, and of an accepted table.
use mathlib.Core.Path.{◌≡◌, refl, sym, ◌∙◌, ap}
use mathlib.Core.Bool.{true}
use mathlib.Core.List.{List, [], ◌++◌, map}
use mathlib.Core.Logic.{⊎_elim}
use Prim.Native.Nat.{ℕ, zero, suc, ◌+◌, ◌≤◌, ◌<◌}
use native.Mathlib.Omega.{arith}
use native.Mathlib.Decide.{dec_lt}
use borrow.Author.Tests.{ltb-true, leb-true, eqb-true, lt-ltb, le-ltb}
use lib.Dec.{eqb}
use Rattle.prelude.specs.Parts.{sum, Part}
use Rattle.prelude.proofs.Choice.{choose_yes, choose_no, choose_cases, also_true, clash}
use Rattle.prelude.proofs.Each.{each_map}
use Rattle.prelude.proofs.Rec.{rec_eq, below_low}
use Rattle.image.specs.declared.Row.{Row}
use Rattle.image.specs.Rows.{row_at, rows_of}
use Rattle.image.specs.Faults.{KeptIn}
use Rattle.image.specs.Versions.{scalar_rows}
use Rattle.image.proofs.Faults.{all_each}
use Rattle.image.proofs.Versions.{few_rows}
use Rattle.shapes.specs.Forms.{Form, Form.scalar, Form.array, Form.record_of, form_of, form}
use Rattle.shapes.specs.Forms.{base_of, count_of, kind_by, of_base, own_types}
use Rattle.shapes.specs.Sizes.{size_by, size_of, layout_by, layout_of, fields_by, fields_of}
use Rattle.shapes.specs.Shapes.{used_below, scalar_kept, array_kept, field_kept, base_kept, record_kept, later_kept}
use Rattle.shapes.specs.Shapes.{shape_kept, type_kept}
use Rattle.shapes.proofs.Rows.{form_scalar, form_array, form_record, of_row, by_bases, own_each}

-- ---- a row

-- no base, or a record in a lower row
pub data Based (t : List ℕ) (r : ℕ) : ℕ → Type 0 where
  no_base : Based t r zero
  on_base : {b : ℕ} → b < r → (row_at t b).kind ≡ 4 → Based t r (suc b)

pub based_on : {t : List ℕ} {r a b : ℕ} → Based t r a → a ≡ suc b → (b < r) × ((row_at t b).kind ≡ 4)
based_on no_base e = absurd (omega arith)
based_on {b = b} (on_base {b = c} low kind) e = let q : c ≡ b = omega arith in (omega arith, rw q at kind)

pub base_most : {t : List ℕ} {r a : ℕ} → Based t r a → a ≤ r
base_most no_base = omega arith
base_most (on_base low kind) = omega arith

-- a type row r, where `used` field rows are claimed by the rows below it
pub data Shape (t f : List ℕ) (used r : ℕ) : Form → Type 0 where
  is_scalar : Shape t f used r (scalar r)
  is_array : {element n : ℕ} → element < r → 1 ≤ n → n ≤ 4096 → Shape t f used r (array element n)
  is_record : {base count : ℕ} → Based t r base → used + count ≤ rows_of f → KeptIn (field_kept f r) used (used + count)
      → Shape t f used r (record_of base used count)

based : (t : List ℕ) (r a : ℕ) → base_kept t r a ≡ true → Based t r a
unfolding base_kept
based t r zero e = no_base
based t r (suc b) e = let (l, k) = also_true _ _ e in on_base (ltb-true b r l) (eqb-true _ _ k)

scalar_form : (r : ℕ) (row : Row) → r < 3 → scalar_kept r row ≡ true → form_of row ≡ scalar r
unfolding scalar_kept
scalar_form r row h e =
    let kind : row.kind ≡ r = eqb-true _ _ (also_true _ _ e).0 in
    form_scalar row (omega arith) ∙ ap scalar kind

array_shape : (t f : List ℕ) (used r : ℕ) (row : Row) → row.kind ≡ 3 → array_kept r row ≡ true
    → Shape t f used r (form_of row)
unfolding array_kept
array_shape t f used r row kind e =
    let (low, e₁) = also_true _ _ e in
    let (least, e₂) = also_true _ _ e₁ in
    let (most, e₃) = also_true _ _ e₂ in
    rw (form_array row kind) (is_array (ltb-true _ _ low) (leb-true _ _ least) (leb-true _ _ most))

record_shape : (t f : List ℕ) (used r : ℕ) (row : Row) → row.kind ≡ 4 → record_kept t f used r row ≡ true
    → Shape t f used r (form_of row)
unfolding record_kept
record_shape t f used r row kind e =
    let (base, e₁) = also_true _ _ e in
    let (first, e₂) = also_true _ _ e₁ in
    let (rows, own) = also_true _ _ e₂ in
    let at : row.b ≡ used = eqb-true _ _ first in
    rw (form_record row kind, at)
    (is_record (based t r row.a base) (leb-true _ _ rows) (all_each (field_kept f r) row.c used own))

later_shape : (t f : List ℕ) (used r : ℕ) (row : Row) → later_kept t f used r row ≡ true → Shape t f used r (form_of row)
unfolding later_kept
later_shape t f used r row e =
    ⊎_elim
    (λ a. array_shape t f used r row (eqb-true _ _ a.0) a.1)
    (λ a. ⊎_elim
    (λ b. record_shape t f used r row (eqb-true _ _ b.0) b.1)
    (λ b. clash (sym b.1))
    (choose_cases (eqb row.kind 4) a.1))
    (choose_cases (eqb row.kind 3) e)

later_high : (t f : List ℕ) (used r : ℕ) (row : Row) → later_kept t f used r row ≡ true → 3 ≤ row.kind
unfolding later_kept
later_high t f used r row e =
    ⊎_elim
    (λ a. let kind = eqb-true row.kind 3 a.0 in omega arith)
    (λ a. ⊎_elim
    (λ b. let kind = eqb-true row.kind 4 b.0 in omega arith)
    (λ b. clash (sym b.1))
    (choose_cases (eqb row.kind 4) a.1))
    (choose_cases (eqb row.kind 3) e)

module _ (version : ℕ) (t f : List ℕ) (used r : ℕ) (row : Row) (e : shape_kept version t f used r row ≡ true) where
  scalar_first : r < scalar_rows version → form_of row ≡ scalar r
  unfolding shape_kept
  scalar_first h =
      let few = few_rows version in
      let kept = sym (choose_yes _ _ _ (lt-ltb r (scalar_rows version) h)) ∙ (also_true _ _ e).1 in
      scalar_form r row (omega arith) kept

  -- a row among the first is a scalar of its number: "Rows 0, 1, 2 are kinds 0 BOOLEAN, 1 INTEGER, 2 SET."
  pub scalar_shaped : r < scalar_rows version → kind_by (form_of row) ≡ r
  unfolding kind_by
  scalar_shaped h = rw (scalar_first h)

  -- "Later rows are kind 3, array (..), or kind 4, record"
  pub later_shaped : scalar_rows version ≤ r → 3 ≤ row.kind
  unfolding shape_kept
  later_shaped h =
      later_high t f used r row
      (sym (choose_no _ _ _ (le-ltb r (scalar_rows version) h)) ∙ (also_true _ _ e).1)

  pub shape_of : Shape t f used r (form_of row)
  unfolding shape_kept
  shape_of = go (dec_lt r (scalar_rows version))
    where
      go : Dec (r < scalar_rows version) → Shape t f used r (form_of row)
      go (yes h) = rw (scalar_first h) is_scalar
      go (no h) =
          later_shape t f used r row
          (sym (choose_no _ _ _ (le-ltb r (scalar_rows version) (omega arith))) ∙ (also_true _ _ e).1)

-- a shape that is a record's
pub record IsRecord (t f : List ℕ) (used r base first count : ℕ) : Type 0 where
  pub on : Based t r base
  pub claims : first ≡ used
  pub within : first + count ≤ rows_of f
  pub own : KeptIn (field_kept f r) first (first + count)

pub record_is : {t f : List ℕ} {used r : ℕ} {x : Form} {base first count : ℕ} → Shape t f used r x → x ≡ record_of base first count
    → IsRecord t f used r base first count
record_is is_scalar e = let z : ◌≡◌ {A = ℕ} 0 1 = cc in absurd (omega arith)
record_is (is_array a b c) e = let z : ◌≡◌ {A = ℕ} 0 1 = cc in absurd (omega arith)
record_is {t} {f} {used} {r} {base = base} {first} {count} (is_record {base = b} {count = n} on rows own) e =
    let at : used ≡ first = cc in
    let bases : b ≡ base = cc in
    let counts : n ≡ count = cc in
    record {
      on = rw bases at on;
      claims = sym at;
      within = rw (← at, ← counts) rows;
      own = rw (at, counts) at own;
    }

-- a shape that is an array's
pub record IsArray (r element n : ℕ) : Type 0 where
  pub low : element < r
  pub least : 1 ≤ n
  pub most : n ≤ 4096

pub array_is : {t f : List ℕ} {used r : ℕ} {x : Form} {element n : ℕ} → Shape t f used r x → x ≡ array element n → IsArray r element n
array_is is_scalar e = let z : ◌≡◌ {A = ℕ} 0 1 = cc in absurd (omega arith)
array_is {element = element} {n} (is_array {element = b} {n = m} a x y) e =
    let elements : b ≡ element = cc in
    let counts : m ≡ n = cc in
    record { low = rw (← elements) a; least = rw (← counts) x; most = rw (← counts) y }
array_is (is_record on rows own) e = let z : ◌≡◌ {A = ℕ} 0 1 = cc in absurd (omega arith)

-- what holds of every form that a row may have holds of its own
pub by_shape : {t f : List ℕ} {used r : ℕ} {x : Form} (P : Form → Type 0) → Shape t f used r x
    → ((k : ℕ) → P (scalar k))
    → ((element n : ℕ) → element < r → P (array element n))
    → ((base count : ℕ) → Based t r base → used + count ≤ rows_of f → KeptIn (field_kept f r) used (used + count)
    → P (record_of base used count))
    → P x
by_shape {r = r} P is_scalar s a c = s r
by_shape P (is_array {element = e} {n = n} low x y) s a c = a e n low
by_shape P (is_record {base = b} {count = n} on rows own) s a c = c b n on rows own

-- an accepted row: its shape, and "No size exceeds 4,096."
pub record RowKept (t f : List ℕ) (r : ℕ) : Type 0 where
  pub shape : Shape t f (used_below t r) r (form t r)
  pub small : size_of t f r ≤ 4096

pub row_kept : (version : ℕ) (t f : List ℕ) (r : ℕ) → type_kept version t f r ≡ true → RowKept t f r
unfolding type_kept form
row_kept version t f r e =
    let (shape, size) = also_true _ _ e in
    record { shape = shape_of version t f (used_below t r) r (row_at t r) shape; small = leb-true _ _ size }

-- a field of an accepted record has a type in a lower row
pub field_low : (f : List ℕ) (r k : ℕ) → field_kept f r k ≡ true → (row_at f k).a < r
unfolding field_kept
field_low f r k e =
    let (kind, e₁) = also_true _ _ e in
    let (filler, e₂) = also_true _ _ e₁ in
    let (low, e₃) = also_true _ _ e₂ in
    ltb-true _ _ low

-- ---- base and own fields, whatever the form

-- a shape x has these; its layout begins with the base's, its fields and its size are made of theirs
pub record Made (t f : List ℕ) (used r : ℕ) (x : Form) : Type 0 where
  pub on : Based t r (base_of x)
  pub within : used ≤ rows_of f → used + count_of x ≤ rows_of f
  pub own : KeptIn (field_kept f r) used (used + count_of x)
  pub layout : (g : ℕ → List ℕ) → (rest : List ℕ) × (layout_by f g x ≡ of_base [] g (base_of x) ++ rest)
  pub fields : (g : ℕ → List ℕ) → fields_by f g x ≡ of_base [] g (base_of x) ++ own_types f used (count_of x)
  pub size : (g : ℕ → ℕ) → of_base 0 g (base_of x) + sum (map g (own_types f used (count_of x))) ≤ size_by f g x

pub made_of : {t f : List ℕ} {used r : ℕ} {x : Form} → Shape t f used r x → Made t f used r x
unfolding base_of count_of layout_by fields_by size_by of_base own_types sum
made_of {t} {f} {used} {r} shape =
    by_shape (λ x. Made t f used r x) shape
    (λ k. record {
      on = no_base;
      within = λ h. omega arith;
      own = record { each = λ j low high. absurd (omega arith) };
      layout = λ g. (_, refl);
      fields = λ g. refl;
      size = λ g. omega arith;
    })
    (λ e n low. record {
      on = no_base;
      within = λ h. omega arith;
      own = record { each = λ j low high. absurd (omega arith) };
      layout = λ g. (_, refl);
      fields = λ g. refl;
      size = λ g. omega arith;
    })
    (λ a c on rows own. record {
      on = on;
      within = λ h. rows;
      own = own;
      layout = λ g. (_, refl);
      fields = λ g. refl;
      size = λ g. omega arith;
    })

-- ---- a row's size, layout and fields hang on lower rows alone

pub base_agree : {X : Type 0} {t : List ℕ} {r a : ℕ} (none : X) (g h : ℕ → X) → Based t r a → ((b : ℕ) → b < r → g b ≡ h b) → of_base none g a ≡ of_base none h a
base_agree {a = a} none g h on same = by_bases ◌≡◌ a refl (λ b e. same b (based_on on e).0)

pub fields_agree : {X : Type 0} (f : List ℕ) (g h : ℕ → X) (r k n : ℕ) → KeptIn (field_kept f r) k (k + n) → ((b : ℕ) → b < r → g b ≡ h b)
    → map g (own_types f k n) ≡ map h (own_types f k n)
fields_agree f g h r k n kept same =
    each_map (own_each f k n (λ j low high. same (row_at f j).a (field_low f r j (kept.each j low high))))

module _ {t f : List ℕ} {used r : ℕ} where
  pub size_agree : {x : Form} (g h : ℕ → ℕ) → Shape t f used r x → ((b : ℕ) → b < r → g b ≡ h b) → size_by f g x ≡ size_by f h x
  unfolding size_by
  size_agree g h shape same =
      by_shape (λ x. size_by f g x ≡ size_by f h x) shape
      (λ k. refl)
      (λ e n low. rw (same e low))
      (λ a c on rows own. rw (base_agree 0 g h on same, fields_agree f g h r used c own same))

  pub layout_agree : {x : Form} (g h : ℕ → List ℕ) → Shape t f used r x → ((b : ℕ) → b < r → g b ≡ h b) → layout_by f g x ≡ layout_by f h x
  unfolding layout_by
  layout_agree g h shape same =
      by_shape (λ x. layout_by f g x ≡ layout_by f h x) shape
      (λ k. refl)
      (λ e n low. rw (same e low))
      (λ a c on rows own. rw (base_agree [] g h on same, fields_agree f g h r used c own same))

  pub fields_by_agree : {x : Form} (g h : ℕ → List ℕ) → Shape t f used r x → ((b : ℕ) → b < r → g b ≡ h b) → fields_by f g x ≡ fields_by f h x
  fields_by_agree {x} g h shape same =
      let made = made_of shape in
      made.fields g
      ∙ ap (λ l. l ++ own_types f used (count_of x)) (base_agree [] g h made.on same)
      ∙ sym (made.fields h)

-- so the definitions hold as they read
module _ (t f : List ℕ) (r : ℕ) {used : ℕ} (shape : Shape t f used r (form t r)) where
  pub size_is : size_of t f r ≡ size_by f (size_of t f) (form t r)
  unfolding size_of
  size_is =
      rec_eq 0 (λ size r. size_by f size (form t r)) r
      ∙ size_agree _ _ shape (λ b low. below_low 0 r _ b low)

  pub layout_is : layout_of t f r ≡ layout_by f (layout_of t f) (form t r)
  unfolding layout_of
  layout_is =
      rec_eq [] (λ layout r. layout_by f layout (form t r)) r
      ∙ layout_agree _ _ shape (λ b low. below_low [] r _ b low)

  pub fields_are : fields_of t f r ≡ fields_by f (fields_of t f) (form t r)
  unfolding fields_of
  fields_are =
      rec_eq [] (λ fields r. fields_by f fields (form t r)) r
      ∙ fields_by_agree _ _ shape (λ b low. below_low [] r _ b low)

-- ---- "record base plus own fields, base first"

-- type r begins with type u: layout with layout, fields with fields
pub record Begins (t f : List ℕ) (r u : ℕ) : Type 0 where
  pub layout : Part (layout_of t f r) 0 (layout_of t f u)
  pub fields : Part (fields_of t f r) 0 (fields_of t f u)

-- a record begins with its base
pub base_first : (t f : List ℕ) (r : ℕ) {used b : ℕ} → Shape t f used r (form t r) → base_of (form t r) ≡ suc b
    → Begins t f r b
base_first t f r {used} {b} shape base =
    let made = made_of shape in
    let layout = made.layout (layout_of t f) in
    record {
      layout = record {
        rest = layout.0;
        seen = layout_is t f r shape ∙ layout.1 ∙ ap (λ l. l ++ layout.0) (of_row [] (layout_of t f) base);
        within = omega arith;
      };
      fields = record {
        rest = own_types f used (count_of (form t r));
        seen = fields_are t f r shape ∙ made.fields (fields_of t f)
            ∙ ap (λ l. l ++ own_types f used (count_of (form t r))) (of_row [] (fields_of t f) base);
        within = omega arith;
      };
    }

-- ---- field rows used up

pub used_none : (t : List ℕ) → used_below t 0 ≡ 0
unfolding used_below
used_none t = refl

pub used_next : (t : List ℕ) (r : ℕ) → used_below t (suc r) ≡ used_below t r + count_of (form t r)
unfolding used_below
used_next t r = refl

pub used_up : (t : List ℕ) (m n : ℕ) → m ≤ n → used_below t m ≤ used_below t n
used_up t m zero h = let q : m ≡ 0 = omega arith in rw q (omega arith)
used_up t m (suc n) h = go (dec_lt n m) (λ l. used_up t m n l)
  where
    go : Dec (n < m) → (m ≤ n → used_below t m ≤ used_below t n) → used_below t m ≤ used_below t (suc n)
    go (yes l) rest = let q : m ≡ suc n = omega arith in rw q (omega arith)
    go (no l) rest = let up = rest (omega arith) in omega (arith, used_next t n)

pub used_fits : (version : ℕ) (t f : List ℕ) (n : ℕ) → KeptIn (type_kept version t f) 0 n → used_below t n ≤ rows_of f
used_fits version t f zero kept = omega (arith, used_none t)
used_fits version t f (suc n) kept =
    rw (used_next t n)
    ((made_of (row_kept version t f n (kept.each n (omega arith) (omega arith))).shape).within
    (used_fits version t f n (record { each = λ j low high. kept.each j low (omega arith) })))

-- ---- the whole table

-- an accepted types table
pub record TypesKept (t f : List ℕ) : Type 0 where
  pub row : (r : ℕ) → r < rows_of t → RowKept t f r
  pub claimed : used_below t (rows_of t) ≡ rows_of f

-- every size is at most 4,096
pub size_small : (t f : List ℕ) → TypesKept t f → (r : ℕ) → r < rows_of t → size_of t f r ≤ 4096
size_small t f kept r h = (kept.row r h).small
