-- The fields of a record: its base's, and its own.
use mathlib.Core.Path.{◌≡◌, refl, sym, ◌∙◌, ap}
use mathlib.Core.Bool.{Bool, true, false}
use mathlib.Core.List.{List, [], ◌++◌, map}
use Prim.Native.Nat.{ℕ, zero, suc, ◌+◌, ◌-◌, ◌≤◌, ◌<◌}
use native.Mathlib.Nat.{add-sub_cancel_left}
use native.Mathlib.Omega.{arith}
use borrow.Author.Tests.{le-leb, lt-leb}
use lib.Dec.{leb}
use lib.ListN.{length}
use Rattle.prelude.specs.Choice.{choose}
use Rattle.prelude.specs.Parts.{sum, Nth}
use Rattle.prelude.proofs.Choice.{choose_yes, choose_no}
use Rattle.prelude.proofs.Each.{Each, each_so, each_nth, each_map}
use Rattle.prelude.proofs.Parts.{nth_more}
use Rattle.image.specs.declared.Row.{Row}
use Rattle.image.specs.Rows.{row_at, rows_of}
use Rattle.shapes.specs.Forms.{of_base, own_types}
use Rattle.shapes.specs.Sizes.{size_of, fields_of}
use Rattle.shapes.proofs.Rows.{of_no_base, by_bases}
use Rattle.shapes.proofs.Accepted.{Based, TypesKept, based_on, base_most, field_low}
use Rattle.shapes.proofs.ByKind.{record_row, record_fields, fields_low}
use Rattle.shapes.proofs.Layouts.{size_fields}
use Rattle.types.proofs.Accepted.{types_kept}
use Rattle.objects.specs.Begins.{parts_of, among}
use Rattle.objects.specs.Looking.{held, Typed, Edges, LowTypes, Fields, Ahead}
use Rattle.objects.specs.Tables.{ROWS}
use Rattle.objects.proofs.Following.{first_alone, sum_append, among_append, among_past, among_agree}
use Rattle.objects.proofs.Looks.{lows_more}
use Rattle.objects.proofs.Beginning.{parts_low}

-- a base with cells is there
pub base_some : (g : ℕ → ℕ) {before : ℕ} (a : ℕ) → before ≡ of_base 0 g a → 0 < before → 0 < a
base_some g zero is h = absurd (omega (arith, is, of_no_base 0 g 0 refl))
base_some g (suc a) is h = omega arith

-- a base's row is a row of the table
pub in_table : {at r n : ℕ} → r < n → at ≤ r → at < n
in_table a b = omega arith

module _ {t f plan : List ℕ} (typed : Typed t f plan) where
  pub kept : TypesKept t f
  kept = types_kept t f typed.kept

  -- ---- sizes by the plan

  pub held_size : (u : ℕ) → u < rows_of t → held plan u ≡ size_of t f u
  held_size u low = typed.size u low

  pub by_plan : (deeper : ℕ → ℕ → Bool) (r o : ℕ) → r < rows_of t
      → among deeper (held plan) (parts_of t f r) o ≡ among deeper (size_of t f) (parts_of t f r) o
  by_plan deeper r o low =
      among_agree deeper deeper (held plan) (size_of t f) (parts_of t f r) o
      (λ n u h. (λ x. refl, held_size u (let l = parts_low t f kept r low h in omega arith)))

  held_each : (r : ℕ) → r < rows_of t → Each (λ u. held plan u ≡ size_of t f u) (fields_of t f r)
  held_each r low = each_so (fields_low t f kept r low) (λ u l. held_size u (omega arith))

  pub fields_held : (r : ℕ) → r < rows_of t → (row_at t r).kind ≡ 4 → sum (map (held plan) (fields_of t f r)) ≡ held plan r
  fields_held r low kind =
      ap sum (each_map (held_each r low))
      ∙ size_fields t f kept r low kind ∙ sym (held_size r low)

  base_held : {r a : ℕ} → r < rows_of t → Based t r a
      → sum (map (held plan) (of_base [] (fields_of t f) a)) ≡ of_base 0 (held plan) a
  base_held {a = a} low on =
      let nothing : sum (map (held plan) []) ≡ 0 = unfold sum in refl in
      by_bases (λ l n. sum (map (held plan) l) ≡ n) a nothing
      (λ b e. let (l, kind) = based_on on e in fields_held b (omega arith) kind)

  -- ---- the record in row `at`

  module _ (at : ℕ) (low : at < rows_of t) (kind : (row_at t at).kind ≡ 4) {row : Row} (this : row ≡ row_at t at) where
    pub on : Based t at row.a
    on = rw this (record_row t f kept at low kind).on

    pub own_low : LowTypes f row.b (row.b + row.c) at
    own_low =
        let is = record_row t f kept at low kind in
        rw this (record {
          within = is.within;
          each = λ j least most. field_low f at j (is.own.each j least most);
        })

    pub own_few : LowTypes f row.b (row.b + row.c) ROWS
    own_few = lows_more (let few = typed.few in omega arith) own_low

    pub base_room : row.a ≤ length plan
    base_room = let few = typed.room in omega (arith, base_most on)

    pub base_few : row.a ≤ ROWS
    base_few = let few = typed.few in omega (arith, base_most on)

    pub base_lower : 0 < row.a → (row.a - 1 < at) × ((row_at t (row.a - 1)).kind ≡ 4)
    base_lower h = based_on on (omega arith)

    pub whole : fields_of t f at ≡ of_base [] (fields_of t f) row.a ++ own_types f row.b row.c
    whole = rw this (record_fields t f kept at low kind)

    base_cells : sum (map (held plan) (of_base [] (fields_of t f) row.a)) ≡ of_base 0 (held plan) row.a
    base_cells = base_held low on

    pub base_cells_is : {before : ℕ} → before ≡ of_base 0 (held plan) row.a
        → sum (map (held plan) (of_base [] (fields_of t f) row.a)) ≡ before
    base_cells_is is = base_cells ∙ sym is

    -- own fields into which a place lies
    module _ {before into o : ℕ} (is : before ≡ of_base 0 (held plan) row.a) (place : before + into ≡ o)
        (less : o < held plan at) where
      pub own_fields : Fields f plan row.b (row.b + row.c) at into
      own_fields = record {
        lows = own_low;
        more =
            rw (add-sub_cancel_left row.b row.c)
            (omega (
              arith,
              is,
              base_cells,
              fields_held at low kind,
              ap (λ l. sum (map (held plan) l)) whole,
              sum_append (held plan) (of_base [] (fields_of t f) row.a) (own_types f row.b row.c),
            ));
      }

      pub own_ahead : row.b + row.c ≤ 131070 → Ahead f plan row.b into
      own_ahead small = record {
        end = row.b + row.c;
        below = at;
        fields = own_fields;
        small = small;
        planned = omega (arith, typed.room);
        few = omega (arith, typed.few);
      }

    inner_low : {n u : ℕ} → Nth (of_base [] (fields_of t f) row.a) n u → u < at
    inner_low h = each_nth (rw whole at (fields_low t f kept at low)) (nth_more (own_types f row.b row.c) h)

    module _ (deeper : ℕ → ℕ → Bool) {before : ℕ} (is : before ≡ of_base 0 (held plan) row.a) (o : ℕ) where
      abbrev pub inner : Bool
      inner = among deeper (held plan) (of_base [] (fields_of t f) row.a) o

      abbrev own : ℕ → Bool
      own = among deeper (held plan) (own_types f row.b (row.b + row.c - row.b))

      split : among deeper (held plan) (fields_of t f at) o
          ≡ choose inner true (choose (leb before o) (own (o - before)) false)
      split =
          let size = base_cells in
          ap (λ l. among deeper (held plan) l o) whole
          ∙ among_append deeper (held plan) (of_base [] (fields_of t f) row.a) (own_types f row.b row.c) o
          ∙ rw (size, is, add-sub_cancel_left row.b row.c)

      -- behind the base
      module _ {w : ℕ} {starts ends : List ℕ} (edges : Edges deeper (held plan) w at starts ends) (h : before < o) where
        pub record_past : inner ≡ false
        record_past =
            among_past deeper (held plan) (of_base [] (fields_of t f) row.a) o
            (λ n u x y l. edges.past u x (inner_low y) l) (rw (base_cells, ← is) h)

        pub record_own : own (o - before) ≡ among deeper (held plan) (fields_of t f at) o
        record_own = sym (split ∙ choose_no _ _ _ record_past ∙ choose_yes _ _ _ (le-leb before o (omega arith)))

      -- in the base
      pub record_in_lem : o < before → inner ≡ among deeper (held plan) (fields_of t f at) o
      record_in_lem h = sym (split ∙ first_alone _ (choose_no _ _ _ (lt-leb before o h)))

      -- at its end
      pub record_yes : inner ≡ true → among deeper (held plan) (fields_of t f at) o ≡ true
      record_yes e = split ∙ choose_yes _ _ _ e

      pub record_no : inner ≡ false → o ≡ before → own 0 ≡ among deeper (held plan) (fields_of t f at) o
      record_no e last =
          let none : o - before ≡ 0 = omega arith in
          sym (split ∙ choose_no _ _ _ e ∙ choose_yes _ _ _ (le-leb before o (omega arith)) ∙ ap own none)
