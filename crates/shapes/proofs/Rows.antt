-- Laws of bases and own fields, a row at a time.
use mathlib.Core.Path.{◌≡◌, refl, ap}
use mathlib.Core.List.{List, [], ◌∷◌, map}
use Prim.Native.Nat.{ℕ, zero, suc, ◌+◌, ◌-◌, ◌*◌, ◌^◌, ◌≤◌, ◌<◌}
use native.Mathlib.Omega.{arith}
use native.Mathlib.Decide.{dec_lt}
use borrow.Author.Tests.{le-leb, lt-leb, eq-eqb, ne_eqb}
use lib.ListN.{length, get_or, take}
use lib.Pow.{pow_pos, pow-add}
use native.Mathlib.Nat.{le_of_lt, lt_of_le_of_lt, mul-le-mul_left, mul-lt-mul_of_pos_right}
use Rattle.prelude.specs.Choice.{choose}
use Rattle.prelude.specs.Parts.{sum}
use Rattle.prelude.proofs.Each.{Each, Each.none, Each.more}
use Rattle.image.specs.declared.Row.{Row}
use Rattle.image.specs.Rows.{row_at}
use Rattle.shapes.specs.Forms.{Form, Form.scalar, Form.array, Form.record_of, Form.no_form, form_of, form}
use Rattle.shapes.specs.Forms.{base_of, count_of, of_base, own_types}

-- the product of a number of j bits and one of k bits has at most j + k
pub product_below : (j k : ℕ) {a b : ℕ} → a < 2 ^ j → b < 2 ^ k → a * b < 2 ^ (j + k)
product_below j k {a} {b} ha hb =
    rw (pow-add 2 j k) (lt_of_le_of_lt (mul-le-mul_left a (le_of_lt hb)) (mul-lt-mul_of_pos_right ha (pow_pos k)))

-- ---- the form of a row by its kind

module _ (r : Row) where
  pub form_scalar : r.kind < 3 → form_of r ≡ scalar r.kind
  unfolding form_of choose
  form_scalar h = rw (le-leb r.kind 2 (omega arith))

  pub form_array : r.kind ≡ 3 → form_of r ≡ array r.a r.b
  unfolding form_of choose
  form_array h = rw (lt-leb r.kind 2 (omega arith), eq-eqb r.kind 3 h)

  pub form_record : r.kind ≡ 4 → form_of r ≡ record_of r.a r.b r.c
  unfolding form_of choose
  form_record h = rw (lt-leb r.kind 2 (omega arith), ne_eqb r.kind 3 (omega arith), eq-eqb r.kind 4 h)

  pub form_none : 4 < r.kind → form_of r ≡ no_form
  unfolding form_of choose
  form_none h = rw (lt-leb r.kind 2 (omega arith), ne_eqb r.kind 3 (omega arith), ne_eqb r.kind 4 (omega arith))

  -- what holds of every form holds of a row's
  pub by_any_form : (P : Form → Type 0) → ((k : ℕ) → k < 3 → P (scalar k)) → ((e n : ℕ) → P (array e n))
      → ((base first count : ℕ) → P (record_of base first count)) → P no_form → P (form_of r)
  by_any_form P s a c n = go (dec_lt r.kind 3) (dec_lt 3 r.kind) (dec_lt 4 r.kind)
    where
      go : Dec (r.kind < 3) → Dec (3 < r.kind) → Dec (4 < r.kind) → P (form_of r)
      go (yes l) d e = rw (form_scalar l) (s r.kind l)
      go (no l) (no m) e = rw (form_array (omega arith)) (a r.a r.b)
      go (no l) (yes m) (no h) = rw (form_record (omega arith)) (c r.a r.b r.c)
      go (no l) (yes m) (yes h) = rw (form_none h) n

  -- what holds of every other form holds of a row that is no record
  pub by_form : (P : Form → Type 0) → ((k : ℕ) → P (scalar k)) → ((e n : ℕ) → P (array e n)) → P no_form → (r.kind ≡ 4 → ⊥) → P (form_of r)
  by_form P s a n h = go (dec_lt r.kind 3) (dec_lt 4 r.kind)
    where
      go : Dec (r.kind < 3) → Dec (4 < r.kind) → P (form_of r)
      go (yes l) d = rw (form_scalar l) (s r.kind)
      go (no l) (yes m) = rw (form_none m) n
      go (no l) (no m) = rw (form_array (omega arith)) (a r.a r.b)

  -- it has no base and no fields
  pub no_record : (r.kind ≡ 4 → ⊥) → (base_of (form_of r) ≡ 0) × (count_of (form_of r) ≡ 0)
  unfolding base_of count_of
  no_record h = by_form (λ x. (base_of x ≡ 0) × (count_of x ≡ 0)) (λ k. (refl, refl)) (λ e n. (refl, refl)) (refl, refl) h

-- ---- the form of a type row

pub row_form : (t : List ℕ) (r : ℕ) {row : Row} → row ≡ row_at t r → form_of row ≡ form t r
unfolding form
row_form t r this = ap form_of this

-- a record's base, and how many field rows it claims
pub of_record : {x : Form} {base first count : ℕ} → x ≡ record_of base first count
    → (base_of x ≡ base) × (count_of x ≡ count)
unfolding base_of count_of
of_record e = (rw e, rw e)

module _ (t : List ℕ) (r : ℕ) where
  pub array_form : (row_at t r).kind ≡ 3 → form t r ≡ array (row_at t r).a (row_at t r).b
  unfolding form
  array_form kind = form_array (row_at t r) kind

  pub record_form : (row_at t r).kind ≡ 4 → form t r ≡ record_of (row_at t r).a (row_at t r).b (row_at t r).c
  unfolding form
  record_form kind = form_record (row_at t r) kind

-- ---- bases

pub less_one : (b : ℕ) → suc b - 1 ≡ b
less_one b = omega arith

pub of_no_base : {X : Type 0} (d : X) (g : ℕ → X) (a : ℕ) → a ≡ 0 → of_base d g a ≡ d
unfolding of_base
of_no_base d g a e = rw e

pub of_base_lem : {X : Type 0} (d : X) (g : ℕ → X) (a : ℕ) → 0 < a → of_base d g a ≡ g (a - 1)
unfolding of_base
of_base_lem d g zero h = absurd (omega arith)
of_base_lem d g (suc b) h = rw (less_one b)

pub of_row : {X : Type 0} (d : X) (g : ℕ → X) {a b : ℕ} → a ≡ suc b → of_base d g a ≡ g b
unfolding of_base
of_row d g e = rw e

-- what holds of none, and of the base's, holds of what a base gives
pub by_base : {X : Type 0} {d : X} {g : ℕ → X} (P : X → Type 0) (a : ℕ) → P d → ((b : ℕ) → a ≡ suc b → P (g b))
    → P (of_base d g a)
unfolding of_base
by_base P zero n s = n
by_base P (suc b) n s = s b refl

-- the same of what two functions give
pub by_bases : {X Y : Type 0} {d : X} {e : Y} {g : ℕ → X} {h : ℕ → Y} (R : X → Y → Type 0) (a : ℕ) → R d e
    → ((b : ℕ) → a ≡ suc b → R (g b) (h b)) → R (of_base d g a) (of_base e h a)
unfolding of_base
by_bases R zero n s = n
by_bases R (suc b) n s = s b refl

-- ---- own fields

-- a loop over the field rows below e, at row k
module _ (f : List ℕ) (k e : ℕ) where
  pub own_step : k < e → own_types f k (e - k) ≡ (row_at f k).a ∷ own_types f (k + 1) (e - (k + 1))
  unfolding own_types
  own_step h = let one : e - k ≡ suc (e - (k + 1)) = omega arith in rw one

  pub own_end : e ≤ k → own_types f k (e - k) ≡ []
  unfolding own_types
  own_end h = let none : e - k ≡ 0 = omega arith in rw none

  pub sum_step : (g : ℕ → ℕ) → k < e → sum (map g (own_types f k (e - k))) ≡ g (row_at f k).a + sum (map g (own_types f (k + 1) (e - (k + 1))))
  unfolding sum
  sum_step g h = rw (own_step h)

  pub sum_end : (g : ℕ → ℕ) → e ≤ k → sum (map g (own_types f k (e - k))) ≡ 0
  unfolding sum
  sum_end g h = rw (own_end h)

pub own_none : (f : List ℕ) (k : ℕ) → own_types f k 0 ≡ []
unfolding own_types
own_none f k = refl

pub own_length : (f : List ℕ) (k n : ℕ) → length (own_types f k n) ≡ n
unfolding own_types
own_length f k zero = refl
own_length f k (suc n) = ap suc (own_length f (k + 1) n)

-- what holds of the type in each field row
pub own_each : {P : ℕ → Type 0} (f : List ℕ) (k n : ℕ) → ((j : ℕ) → k ≤ j → j < k + n → P (row_at f j).a)
    → Each P (own_types f k n)
unfolding own_types
own_each f k zero h = none
own_each f k (suc n) h =
    more (h k (omega arith) (omega arith)) (own_each f (k + 1) n (λ j low high. h j (omega arith) (omega arith)))

pub own_take : (f : List ℕ) (j n k : ℕ) → j ≤ n → take j (own_types f k n) ≡ own_types f k j
unfolding own_types
own_take f zero n k h = refl
own_take f (suc j) zero k h = absurd (omega arith)
own_take f (suc j) (suc n) k h = ap (λ l. (row_at f k).a ∷ l) (own_take f j n (k + 1) (omega arith))

pub own_at : (f : List ℕ) (j n k : ℕ) → j < n → get_or (own_types f k n) j 0 ≡ (row_at f (k + j)).a
unfolding own_types
own_at f j zero k h = absurd (omega arith)
own_at f zero (suc n) k h = let q : k + 0 ≡ k = omega arith in rw q
own_at f (suc j) (suc n) k h =
    let q : k + 1 + j ≡ k + suc j = omega arith in
    rw q at (own_at f j n (k + 1) (omega arith))

-- the sizes of one own field more, at the end
pub sum_more : (f : List ℕ) (g : ℕ → ℕ) (m k : ℕ) → sum (map g (own_types f k (suc m)))
    ≡ sum (map g (own_types f k m)) + g (row_at f (k + m)).a
unfolding own_types sum
sum_more f g zero k = let q : k + 0 ≡ k = omega arith in rw q (omega arith)
sum_more f g (suc m) k =
    let q : k + 1 + m ≡ k + suc m = omega arith in
    let rest = rw q at (sum_more f g m (k + 1)) in
    omega (arith, rest)

pub sum_up : (f : List ℕ) (g : ℕ → ℕ) (m n k : ℕ) → m ≤ n → sum (map g (own_types f k m)) ≤ sum (map g (own_types f k n))
unfolding own_types sum
sum_up f g zero n k h = omega arith
sum_up f g (suc m) zero k h = absurd (omega arith)
sum_up f g (suc m) (suc n) k h = let rest = sum_up f g m n (k + 1) (omega arith) in omega (arith, rest)
