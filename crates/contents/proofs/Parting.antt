-- The cells of an object, part by part.
use mathlib.Core.Path.{◌≡◌, sym, ◌∙◌, ap}
use mathlib.Core.Bool.{Bool, true, false}
use mathlib.Core.List.{List, [], map}
use Prim.Native.Nat.{ℕ, zero, suc, ◌+◌, ◌-◌, ◌*◌, ◌≤◌, ◌<◌}
use native.Mathlib.Nat.{add-sub_cancel_left, suc-mul}
use native.Mathlib.Omega.{arith}
use lib.IntN.{ℤ}
use lib.ListN.{length, get_or, drop, replicate}
use Rattle.prelude.specs.Choice.{◌also◌}
use Rattle.prelude.specs.Parts.{joined, sum}
use Rattle.prelude.proofs.Choice.{also_left, also_pass}
use Rattle.image.specs.declared.Row.{Row}
use Rattle.image.specs.Rows.{row_at, rows_of}
use Rattle.shapes.specs.Forms.{of_base, own_types}
use Rattle.shapes.specs.Sizes.{size_of, layout_of}
use Rattle.shapes.proofs.Rows.{of_no_base, of_base_lem, own_step, own_end}
use Rattle.shapes.proofs.Accepted.{Based, TypesKept, IsArray, base_most, base_agree, field_low}
use Rattle.shapes.proofs.ByKind.{array_row, array_size, array_layout, record_row, record_size, record_kinds}
use Rattle.shapes.proofs.Layouts.{length_based, layout_length}
use Rattle.objects.specs.Looking.{LowTypes}
use Rattle.objects.proofs.Records.{kept, held_size}
use Rattle.asking.specs.State.{values_kept}
use Rattle.contents.specs.Kinds.{EMPTY, PARTS, even_of}
use Rattle.contents.specs.Reading.{Readable, Inside}
use Rattle.contents.proofs.Keeping.{kept_then}
use Rattle.contents.proofs.Evens.{even_run, even_none, even_core, own_array, own_element}

module _ (t f : List ℕ) (store : List ℤ) where
  -- the cells of type row r are those of type row s, which is in several parts
  pub record Stands (r s a : ℕ) : Type 0 where
    pub low : s ≤ r
    pub inside : Inside t f store s a
    pub own : even_of t f s ≡ PARTS + s
    pub layout : layout_of t f r ≡ layout_of t f s

  -- of an array in row r at address a elements are left, from address `at` on; they are of type row `core`
  pub record Elements (r a core size left at : ℕ) : Type 0 where
    pub low : core < r
    pub own : even_of t f core ≡ PARTS + core
    pub sized : size ≡ size_of t f core
    pub room : at + left * size ≤ length store
    pub rest : values_kept (layout_of t f r) (drop a store)
        ≡ values_kept (joined (replicate left (layout_of t f core))) (drop at store)

  -- of n fields from row k on, at address a, those from row j on are left, from address `at` on
  pub record Fields (k n a j at : ℕ) : Type 0 where
    pub first : k ≤ j
    pub last : j ≤ k + n
    pub room : at + sum (map (size_of t f) (own_types f j (k + n - j))) ≤ length store
    pub rest : values_kept (joined (map (layout_of t f) (own_types f k n))) (drop a store)
        ≡ values_kept (joined (map (layout_of t f) (own_types f j (k + n - j)))) (drop at store)

  -- a record at address a
  pub record Parts (r a : ℕ) (row : Row) : Type 0 where
    pub base : row.a ≤ r
    pub base_room : a + of_base 0 (size_of t f) row.a ≤ length store
    pub there : row.b + row.c ≤ rows_of f
    pub lows : LowTypes f row.b (row.b + row.c) r
    pub own_room : a + of_base 0 (size_of t f) row.a + sum (map (size_of t f) (own_types f row.b row.c))
        ≤ length store
    pub both : values_kept (layout_of t f r) (drop a store)
        ≡ (values_kept (of_base [] (layout_of t f) row.a) (drop a store)
        also values_kept (joined (map (layout_of t f) (own_types f row.b row.c)))
        (drop (a + of_base 0 (size_of t f) row.a) store))

module _ {t f plan even : List ℕ} {store : List ℤ} (ok : Readable t f plan even store) where
  -- whether the cells from address a on hold values of these kinds
  abbrev Held : List ℕ → ℕ → Bool
  Held kinds a = values_kept kinds (drop a store)

  types : TypesKept t f
  types = kept ok.typed

  -- ---- what the tables say

  pub in_even : {u : ℕ} → u < rows_of t → u < length even
  in_even h = let rows = ok.evens.rows in omega arith

  pub in_plan : {u : ℕ} → u < rows_of t → u < length plan
  in_plan h = let room = ok.typed.room in omega arith

  size_held : {u size : ℕ} → u < rows_of t → size ≡ get_or plan u 0 → size ≡ size_of t f u
  size_held {u} low e = e ∙ held_size ok.typed u low

  kind_held : {u kind : ℕ} → u < rows_of t → kind ≡ get_or even u 0 → kind ≡ even_of t f u
  kind_held {u} low e = e ∙ ok.evens.each u low

  -- ---- an object of type row r at address a

  module _ {r a : ℕ} (inside : Inside t f store r a) where
    pub run_room : {size : ℕ} → size ≡ get_or plan r 0 → a + size ≤ length store
    run_room e = let is = size_held inside.row e in let room = inside.room in omega (arith, is)

    -- its cells are of one kind
    pub held_run : {size kind : ℕ} {x : Bool} → size ≡ get_or plan r 0 → kind ≡ get_or even r 0 → kind < EMPTY
        → x ≡ Held (replicate size kind) a → x ≡ Held (layout_of t f r) a
    held_run e k low held =
        let is = kind_held inside.row k in
        held ∙ ap (λ (l : List ℕ). Held l a) (rw (size_held inside.row e, is)
        (sym (even_run t f ok.typed.few types r inside.row (rw is at low))))

    -- it has none
    pub held_none : {kind : ℕ} → kind ≡ get_or even r 0 → kind ≡ EMPTY → true ≡ Held (layout_of t f r) a
    unfolding values_kept
    held_none k none =
        let empty = even_none t f ok.typed.few types r inside.row (sym (kind_held inside.row k) ∙ none) in
        rw empty

    -- they are those of a type in several parts
    pub stands : {kind : ℕ} → kind ≡ get_or even r 0 → PARTS ≤ kind → Stands t f store r (kind - PARTS) a
    stands {kind} k high =
        let is = kind_held inside.row k in
        let core = even_core t f ok.typed.few types r inside.row (rw is at high) in
        let low = core.low in
        let row = inside.row in
        let room = inside.room in
        let size : size_of t f (even_of t f r - PARTS) ≡ size_of t f r =
        sym (layout_length t f (even_of t f r - PARTS)) ∙ ap length (sym core.layout) ∙ layout_length t f r in
        rw is (record {
          low = omega arith;
          inside = record { row = omega arith; room = omega (arith, size) };
          own = core.own;
          layout = core.layout;
        })

    pub held_core : {s : ℕ} {x : Bool} → Stands t f store r s a → x ≡ Held (layout_of t f s) a
        → x ≡ Held (layout_of t f r) a
    held_core c held = held ∙ ap (λ (l : List ℕ). Held l a) (sym c.layout)

    -- ---- an array

    module _ (own : even_of t f r ≡ PARTS + r) {row : Row} (this : row ≡ row_at t r) (other : row.kind ≡ 4 → ⊥) where
      array_kind : (row_at t r).kind ≡ 3
      array_kind = own_array t f ok.typed.few types r inside.row own (rw this at other)

      is_array : IsArray r row.a row.b
      is_array = rw this (array_row t f types r inside.row array_kind)

      pub element_there : row.a < rows_of t
      element_there = let low = is_array.low in let h = inside.row in omega arith

      whole : layout_of t f r ≡ joined (replicate row.b (layout_of t f row.a))
      whole = rw this (array_layout t f types r inside.row array_kind)

      all : size_of t f r ≡ row.b * size_of t f row.a
      all = rw this (array_size t f types r inside.row array_kind)

      pub element_parts : {kind : ℕ} → kind ≡ get_or even row.a 0 → PARTS ≤ kind
      element_parts k =
          rw (kind_held element_there k, this) (own_element t f ok.typed.few types r inside.row own array_kind)

      pub elements_first : {size kind : ℕ} → size ≡ get_or plan row.a 0 → kind ≡ get_or even row.a 0
          → Elements t f store r a (kind - PARTS) size row.b a
      elements_first {size} {kind} e k =
          let is = kind_held element_there k in
          let core = even_core t f ok.typed.few types row.a element_there (rw is at (element_parts k)) in
          let low = is_array.low in
          let under = core.low in
          let room = inside.room in
          let sized = size_held element_there e in
          let size_core : size_of t f row.a ≡ size_of t f (even_of t f row.a - PARTS) =
          sym (layout_length t f row.a) ∙ ap length core.layout
          ∙ layout_length t f (even_of t f row.a - PARTS) in
          rw is (record {
            low = omega arith;
            own = core.own;
            sized = sized ∙ size_core;
            room = rw sized (omega (arith, all));
            rest = ap (λ (l : List ℕ). Held l a) (whole ∙ ap (λ (l : List ℕ). joined (replicate row.b l)) core.layout);
          })

    module _ {core size left at : ℕ} (l : Elements t f store r a core size left at) where
      pub element_inside : 0 < left → Inside t f store core at
      element_inside some = record {
        row = let low = l.low in let h = inside.row in omega arith;
        room = go left some l.room;
      }
        where
          go : (n : ℕ) → 0 < n → at + n * size ≤ length store → at + size_of t f core ≤ length store
          go zero h room = absurd (omega arith)
          go (suc n) h room = omega (arith, suc-mul n size, l.sized)

      step : 0 < left → Held (layout_of t f r) a
          ≡ (Held (layout_of t f core) at also Held (joined (replicate (left - 1) (layout_of t f core))) (at + size))
      unfolding joined
      step some =
          let one : left ≡ suc (left - 1) = omega arith in
          l.rest ∙ ap (λ (n : ℕ). Held (joined (replicate n (layout_of t f core))) at) one
          ∙ kept_then (layout_of t f core) (joined (replicate (left - 1) (layout_of t f core))) store at size
          (layout_length t f core ∙ sym l.sized)

      pub element_fails : {x : Bool} → 0 < left → x ≡ Held (layout_of t f core) at → x ≡ false
          → false ≡ Held (layout_of t f r) a
      element_fails some is fails = sym (step some ∙ also_left _ (sym is ∙ fails))

      pub elements_next : {x : Bool} → 0 < left → x ≡ Held (layout_of t f core) at → x ≡ true
          → Elements t f store r a core size (left - 1) (at + size)
      elements_next some is holds = record {
        low = l.low;
        own = l.own;
        sized = l.sized;
        room =
            let one : left ≡ suc (left - 1) = omega arith in
            let room : at + suc (left - 1) * size ≤ length store = rw one at l.room in
            omega (arith, suc-mul (left - 1) size);
        rest = step some ∙ also_pass _ (sym is ∙ holds);
      }

      pub elements_end : left ≤ 0 → true ≡ Held (layout_of t f r) a
      unfolding joined values_kept
      elements_end none = let no : left ≡ 0 = omega arith in sym (l.rest ∙ rw no)

    -- ---- a record

    pub record_parts : {row : Row} → row ≡ row_at t r → row.kind ≡ 4 → Parts t f store r a row
    record_parts {row} this kind =
        let here : (row_at t r).kind ≡ 4 = rw this at kind in
        let is = record_row t f types r inside.row here in
        let size = record_size t f types r inside.row here in
        let room = inside.room in
        rw this (record {
          base = base_most is.on;
          base_room = omega (arith, size);
          there = is.within;
          lows = record { within = is.within; each = λ j x y. field_low f r j (is.own.each j x y) };
          own_room = omega (arith, size);
          both = ap (λ (l : List ℕ). Held l a) (record_kinds t f types r inside.row here)
              ∙ kept_then (of_base [] (layout_of t f) (row_at t r).a)
              (joined (map (layout_of t f) (own_types f (row_at t r).b (row_at t r).c))) store a _
              (length_based (size_of t f) (layout_of t f) (layout_length t f) (row_at t r).a);
        })

    pub before_is : {row : Row} {before : ℕ} → row ≡ row_at t r → row.kind ≡ 4
        → before ≡ of_base 0 (λ u. get_or plan u 0) row.a → before ≡ of_base 0 (size_of t f) row.a
    before_is {row} this kind e =
        let is = record_row t f types r inside.row (rw this at kind) in
        let h = inside.row in
        let on : Based t r row.a = rw this is.on in
        e ∙ base_agree {r = r} 0 (λ u. get_or plan u 0) (size_of t f) on (λ b low. held_size ok.typed b (omega arith))

    module _ {row : Row} {x : Bool} (this : row ≡ row_at t r) (kind : row.kind ≡ 4)
        (base : x ≡ Held (of_base [] (layout_of t f) row.a) a) where
      pub record_fails : x ≡ false → false ≡ Held (layout_of t f r) a
      record_fails fails = sym ((record_parts this kind).both ∙ also_left _ (sym base ∙ fails))

      pub record_holds : {before : ℕ} {y : Bool} → x ≡ true → before ≡ of_base 0 (λ u. get_or plan u 0) row.a
          → y ≡ Held (joined (map (layout_of t f) (own_types f row.b row.c))) (a + before)
          → y ≡ Held (layout_of t f r) a
      record_holds holds e held =
          let own = rw (before_is this kind e) at held in
          own ∙ sym ((record_parts this kind).both ∙ also_pass _ (sym base ∙ holds))

  -- ---- a record's base

  pub base_inside : {b a : ℕ} → 0 < b → b ≤ rows_of t → a + of_base 0 (size_of t f) b ≤ length store
      → Inside t f store (b - 1) a
  base_inside {b} some most room = record {
    row = omega arith;
    room = omega (arith, of_base_lem 0 (size_of t f) b some);
  }

  pub base_none : {b : ℕ} (a : ℕ) → b ≡ 0 → true ≡ Held (of_base [] (layout_of t f) b) a
  unfolding values_kept
  base_none {b} a none = rw (of_no_base [] (layout_of t f) b none)

  pub base_some : {b : ℕ} (a : ℕ) {x : Bool} → 0 < b → x ≡ Held (layout_of t f (b - 1)) a
      → x ≡ Held (of_base [] (layout_of t f) b) a
  base_some {b} a some is = is ∙ ap (λ (l : List ℕ). Held l a) (sym (of_base_lem [] (layout_of t f) b some))

  -- ---- own fields of the record in row r

  pub fields_first : (k n a : ℕ) → a + sum (map (size_of t f) (own_types f k n)) ≤ length store
      → Fields t f store k n a k a
  fields_first k n a room = record {
    first = omega arith;
    last = omega arith;
    room = rw (add-sub_cancel_left k n) room;
    rest = rw (add-sub_cancel_left k n);
  }

  module _ {r k n a j at u : ℕ} (low : r < rows_of t) (lows : LowTypes f k (k + n) r) (l : Fields t f store k n a j at)
      (more : j < k + n) (this : u ≡ (row_at f j).a) where
    pub field_below : u < r
    field_below = rw this (lows.each j l.first more)

    pub field_inside : Inside t f store u at
    unfolding sum
    field_inside = record {
      row = let h = field_below in omega arith;
      room =
          let room : at + (size_of t f (row_at f j).a + sum (map (size_of t f) (own_types f (j + 1) (k + n - (j + 1)))))
          ≤ length store = rw (own_step f j (k + n) more) at l.room in
          rw this (omega arith);
    }

    field_step : Held (joined (map (layout_of t f) (own_types f k n))) a
        ≡ (Held (layout_of t f u) at
        also Held (joined (map (layout_of t f) (own_types f (j + 1) (k + n - (j + 1))))) (at + size_of t f u))
    unfolding joined
    field_step =
        l.rest ∙ rw (own_step f j (k + n) more, ← this)
        (kept_then (layout_of t f u) (joined (map (layout_of t f) (own_types f (j + 1) (k + n - (j + 1))))) store at
        (size_of t f u) (layout_length t f u))

    pub field_fails : {x : Bool} → x ≡ Held (layout_of t f u) at → x ≡ false
        → false ≡ Held (joined (map (layout_of t f) (own_types f k n))) a
    field_fails is fails = sym (field_step ∙ also_left _ (sym is ∙ fails))

    fields_on : Held (layout_of t f u) at ≡ true → Fields t f store k n a (j + 1) (at + size_of t f u)
    unfolding sum
    fields_on holds =
        let room : at + (size_of t f (row_at f j).a + sum (map (size_of t f) (own_types f (j + 1) (k + n - (j + 1)))))
        ≤ length store = rw (own_step f j (k + n) more) at l.room in
        let h = l.first in
        record {
          first = omega arith;
          last = omega arith;
          room = rw this (omega arith);
          rest = field_step ∙ also_pass _ holds;
        }

    pub fields_next : {size : ℕ} {x : Bool} → size ≡ get_or plan u 0 → x ≡ Held (layout_of t f u) at → x ≡ true
        → Fields t f store k n a (j + 1) (at + size)
    fields_next e is holds = rw (size_held field_inside.row e) (fields_on (sym is ∙ holds))

    -- a field without cells
    pub fields_skip : {kind : ℕ} → kind ≡ get_or even u 0 → kind ≡ EMPTY → Fields t f store k n a (j + 1) at
    fields_skip e none =
        let empty = even_none t f ok.typed.few types u field_inside.row
        (sym (kind_held field_inside.row e) ∙ none) in
        let same : at + size_of t f u ≡ at = omega (arith, sym (layout_length t f u) ∙ ap length empty) in
        rw same at (fields_on (sym (held_none field_inside e none)))

  pub fields_end : {k n a j at : ℕ} → Fields t f store k n a j at → k + n ≤ j
      → true ≡ Held (joined (map (layout_of t f) (own_types f k n))) a
  unfolding joined values_kept
  fields_end {k} {n} {j = j} l h = sym (l.rest ∙ rw (own_end f j (k + n) h))
