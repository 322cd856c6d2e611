-- What the code answers is where objects begin.
use mathlib.Core.Path.{◌≡◌, refl, sym, ◌∙◌, ap}
use mathlib.Core.Bool.{Bool, true, false}
use mathlib.Core.List.{List}
use Prim.Native.Nat.{ℕ, ◌+◌, ◌*◌, ◌≤◌, ◌<◌}
use native.Mathlib.Nat.{mul-zero, lt_of_mul-lt-mul_left}
use native.Mathlib.Omega.{arith}
use borrow.Author.Tests.{ne_eqb}
use lib.Dec.{eqb}
use lib.ListN.{set, length-set, replicate}
use lib.Seq.{get_or-set_other}
use Rattle.prelude.specs.Choice.{choose, ◌also◌}
use Rattle.prelude.proofs.Choice.{choose_no, also_right}
use Rattle.image.specs.declared.Row.{Row}
use Rattle.image.specs.Rows.{row_at, rows_of}
use Rattle.shapes.specs.Sizes.{fields_of}
use Rattle.shapes.proofs.Singles.{single_size}
use Rattle.shapes.proofs.ByKind.{Sort, Sort.a_single, Sort.an_array, Sort.a_record, sort_of, array_row, array_size}
use Rattle.shapes.proofs.ByKind.{no_fields}
use Rattle.objects.specs.Begins.{parts_of, among, begins_at}
use Rattle.objects.specs.Looking.{held, Typed, Beyond}
use Rattle.objects.specs.Tables.{ROWS}
use Rattle.objects.proofs.Beginning.{array_parts, other_parts, begins_eq}
use Rattle.objects.proofs.Records.{kept, held_size, by_plan}

module _ {t f plan : List ℕ} (typed : Typed t f plan) where
  -- ---- parts by the kind

  pub element_low : (r : ℕ) → r < rows_of t → {row : Row} → row ≡ row_at t r → row.kind ≡ 3 → row.a < r
  element_low r low this kind =
      let is = array_row t f (kept typed) r low (rw (← this) kind) in
      rw this is.low

  pub element_few : (r : ℕ) → r < rows_of t → {row : Row} → row ≡ row_at t r → row.kind ≡ 3 → row.a < ROWS
  element_few r low this kind = let few = typed.few in omega (arith, element_low r low this kind)

  module _ (r : ℕ) (low : r < rows_of t) {row : Row} (this : row ≡ row_at t r) where
    pub array_held : row.kind ≡ 3 → row.b * held plan row.a ≡ held plan r
    array_held kind =
        let k : (row_at t r).kind ≡ 3 = rw (← this) kind in
        let less = element_low r low this kind in
        rw (held_size typed row.a (omega arith), held_size typed r low, array_size t f (kept typed) r low k, this)

    -- between its edges
    module _ {o : ℕ} (some : 0 < o) (inside : o < held plan r) where
      pub element_some : row.kind ≡ 3 → 0 < held plan row.a
      element_some kind =
          lt_of_mul-lt-mul_left row.b (omega (arith, mul-zero row.b, array_held kind))

      pub is_record : (row.kind ≡ 3 → ⊥) → (row_at t r).kind ≡ 4
      is_record other = go (sort_of t f (kept typed) r low)
        where
          go : Sort t r → (row_at t r).kind ≡ 4
          go (a_single one) =
              absurd (omega (arith, held_size typed r low, single_size t f (kept typed) r one))
          go (an_array kind) = absurd (other (rw this kind))
          go (a_record kind) = kind

  module _ (r : ℕ) (low : r < rows_of t) {row : Row} (this : row ≡ row_at t r) (deeper : ℕ → ℕ → Bool) (o : ℕ) where
    pub part_array : row.kind ≡ 3 → (1 ≤ row.b)
        × (among deeper (held plan) (replicate row.b row.a) o ≡ among deeper (held plan) (parts_of t f r) o)
    part_array kind =
        let k : (row_at t r).kind ≡ 3 = rw (← this) kind in
        let is = array_row t f (kept typed) r low k in
        let same : replicate row.b row.a ≡ parts_of t f r = rw this (sym (array_parts t f r k)) in
        (rw this is.least, ap (λ l. among deeper (held plan) l o) same)

    pub part_record : row.kind ≡ 4
        → among deeper (held plan) (fields_of t f r) o ≡ among deeper (held plan) (parts_of t f r) o
    part_record kind =
        let k : (row_at t r).kind ≡ 4 = rw (← this) kind in
        ap (λ l. among deeper (held plan) l o) (sym (other_parts t f r (λ e. absurd (omega arith))))

    pub part_none : (row.kind ≡ 3 → ⊥) → (row.kind ≡ 4 → ⊥) → among deeper (held plan) (parts_of t f r) o ≡ false
    unfolding among
    part_none a b =
        let no_array : (row_at t r).kind ≡ 3 → ⊥ = rw (← this) a in
        let no_record : (row_at t r).kind ≡ 4 → ⊥ = rw (← this) b in
        rw (other_parts t f r no_array, no_fields t f (kept typed) r low no_record)

  -- ---- the test by the parts

  module _ (w r : ℕ) (low : r < rows_of t) (o : ℕ) where
    pub begins_by : begins_at t f w r o
        ≡ choose (eqb r w also eqb o 0) true (among (begins_at t f w) (held plan) (parts_of t f r) o)
    begins_by =
        begins_eq t f (kept typed) w r o low
        ∙ ap (λ b. choose (eqb r w also eqb o 0) true b) (sym (by_plan typed (begins_at t f w) r o low))

    pub by_parts : (eqb r w also eqb o 0) ≡ false
        → begins_at t f w r o ≡ among (begins_at t f w) (held plan) (parts_of t f r) o
    by_parts other = begins_by ∙ choose_no _ _ _ other

    pub by_inner : (o ≡ 0 → ⊥) → begins_at t f w r o ≡ among (begins_at t f w) (held plan) (parts_of t f r) o
    by_inner some = by_parts (also_right (eqb r w) (ne_eqb o 0 some))

-- ---- what is not written

pub beyond_none : (table : List ℕ) → Beyond 0 table table
beyond_none table = record { cells = refl; rest = λ i h. refl }

-- row m is written
pub beyond_next : {m : ℕ} {old table : List ℕ} (word : ℕ) → Beyond m old table → Beyond (m + 1) old (set table m word)
beyond_next {m} {old} {table} word same = record {
  cells = length-set table m word ∙ same.cells;
  rest = λ i h. get_or-set_other table m i word 0 (omega arith) ∙ same.rest i (omega arith);
}

pub beyond_more : {m n : ℕ} {old table : List ℕ} → m ≤ n → Beyond m old table → Beyond n old table
beyond_more le same = record { cells = same.cells; rest = λ i h. same.rest i (omega (arith, le)) }
