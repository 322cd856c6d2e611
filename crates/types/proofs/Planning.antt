-- Laws of the plan, a type row at a time.
use mathlib.Core.Path.{◌≡◌, refl, sym, ◌∙◌, ap}
use mathlib.Core.Bool.{true}
use mathlib.Core.List.{List, [], map}
use Prim.Native.Nat.{ℕ, zero, suc, ◌+◌, ◌≤◌, ◌<◌}
use native.Mathlib.Omega.{arith}
use native.Mathlib.Decide.{dec_lt}
use lib.ListN.{length, get_or, set, length-set, length-append}
use lib.Seq.{get_or-set_same, get_or-set_other}
use Rattle.prelude.specs.Parts.{sum}
use Rattle.image.specs.declared.Row.{Row}
use Rattle.image.specs.Rows.{row_at, rows_of}
use Rattle.image.specs.Faults.{KeptIn}
use Rattle.shapes.specs.Forms.{Form.record_of, form_of, form, base_of, count_of, of_base, own_types}
use Rattle.shapes.specs.Sizes.{size_of, fields_of}
use Rattle.shapes.specs.Shapes.{used_below, type_kept}
use Rattle.types.specs.Plan.{inherited_of, own_offset, Plan, Rest}
use Rattle.types.specs.Filling.{OffsetsFit, Offsets, Ready}
use Rattle.shapes.proofs.Rows.{row_form, of_record, record_form, by_base, by_bases, own_length}
use Rattle.shapes.proofs.Accepted.{Based, Shape, Made, row_kept, record_is, based_on, made_of, field_low, size_agree}
use Rattle.shapes.proofs.Accepted.{size_is, fields_are, base_agree, fields_agree, used_next, used_up, used_fits}
use Rattle.shapes.proofs.Layouts.{length_based}
use Rattle.sizes.specs.Cells.{INHERITED, OFFSETS}

-- ---- counts of fields

-- a record's fields are its base's and its own
pub fields_count : (version : ℕ) (t f : List ℕ) (r : ℕ) → type_kept version t f r ≡ true
    → length (fields_of t f r) ≡ inherited_of t f r + count_of (form t r)
unfolding inherited_of
fields_count version t f r kept =
    let shape = (row_kept version t f r kept).shape in
    let base = base_of (form t r) in
    let count = count_of (form t r) in
    ap length (fields_are t f r shape ∙ (made_of shape).fields (fields_of t f))
    ∙ length-append (of_base [] (fields_of t f) base) (own_types f (used_below t r) count)
    ∙ rw (
      length_based (λ b. length (fields_of t f b)) (fields_of t f) (λ b. refl) base,
      own_length f (used_below t r) count,
    )

base_few : {t : List ℕ} {r a : ℕ} (g : ℕ → ℕ) (n : ℕ) → Based t r a → ((b : ℕ) → b < r → g b ≤ n) → of_base 0 g a ≤ n
base_few {a = a} g n on h = by_base (λ k. k ≤ n) a (omega arith) (λ b e. h b (based_on on e).0)

-- a record has no more fields than field rows are used up
few_fields : (version : ℕ) (t f : List ℕ) (n r : ℕ) → r < n → KeptIn (type_kept version t f) 0 (r + 1)
    → inherited_of t f r ≤ used_below t r
unfolding inherited_of
few_fields version t f zero r h kept = absurd (omega arith)
few_fields version t f (suc n) r h kept =
    base_few _ _ (made_of (row_kept version t f r (kept.each r (omega arith) (omega arith))).shape).on
    (λ b low. step b low
    (few_fields version t f n b (omega arith) (record { each = λ j a z. kept.each j a (omega arith) })))
  where
    step : (b : ℕ) → b < r → inherited_of t f b ≤ used_below t b → length (fields_of t f b) ≤ used_below t r
    step b low few =
        let count = fields_count version t f b (kept.each b (omega arith) (omega arith)) in
        let up = used_up t (suc b) r low in
        omega (arith, count, few, used_next t b, up)

pub inherited_fits : (version : ℕ) (t f : List ℕ) (r : ℕ) → KeptIn (type_kept version t f) 0 (r + 1)
    → inherited_of t f r ≤ rows_of f
inherited_fits version t f r kept =
    let few = few_fields version t f (suc r) r (omega arith) kept in
    let fits = used_fits version t f r (record { each = λ j low high. kept.each j low (omega arith) }) in
    omega arith

-- ---- a row that is to be planned

module _ (t f plan : List ℕ) (used r : ℕ) (row : Row) (size : ℕ) (ready : Ready t f plan used r row size) where
  open ready use {version, few_rows, cells, this_row, claimed, sized, below, here, planned}

  -- its shape, and the plan's sizes of the rows below
  abbrev held : ℕ → ℕ
  held b = get_or plan b 0

  this_form : form_of row ≡ form t r
  this_form = row_form t r this_row

  row_shape : Shape t f used r (form t r)
  row_shape = rw claimed (row_kept version t f r here).shape

  row_made : Made t f used r (form t r)
  row_made = made_of row_shape

  held_is : (b : ℕ) → b < r → held b ≡ size_of t f b
  held_is b low = planned.size b low

  row_base : Based t r (base_of (form_of row))
  row_base = rw this_form row_made.on

  -- the base's size, as the plan has it
  base_is : of_base 0 held (base_of (form_of row)) ≡ of_base 0 (size_of t f) (base_of (form t r))
  base_is = base_agree 0 held (size_of t f) row_base held_is ∙ ap (λ x. of_base 0 (size_of t f) (base_of x)) this_form

  kept_to : KeptIn (type_kept version t f) 0 (r + 1)
  kept_to = record { each = λ j low high. go j (dec_lt j r) high }
    where
      go : (j : ℕ) → Dec (j < r) → j < r + 1 → type_kept version t f j ≡ true
      go j (yes h) high = below.each j (omega arith) h
      go j (no h) high = let q : r ≡ j = omega arith in rw (← q) here

  -- what the count of inherited fields asks and gives
  pub few_inherited : of_base 0 (λ b. get_or plan (INHERITED + b) 0) (base_of (form_of row)) ≤ 65535
  few_inherited = base_few _ _ row_base few
    where
      few : (b : ℕ) → b < r → get_or plan (INHERITED + b) 0 ≤ 65535
      few b low =
          let fits = inherited_fits version t f b (record { each = λ j a z. below.each j a (omega arith) }) in
          let count = planned.inherited b low in
          let rows = ready.few_fields in
          omega arith

  base_counts : {a : ℕ} → Based t r a
      → of_base 0 (λ b. get_or plan (INHERITED + b) 0 + (row_at t b).c) a ≡ of_base 0 (λ b. length (fields_of t f b)) a
  base_counts {a} on =
      by_bases ◌≡◌ a refl
      (λ b e.
      let (low, kind) = based_on on e in
      rw (planned.inherited b low, ← (of_record (record_form t b kind)).1)
      (sym (fields_count version t f b (below.each b (omega arith) low))))

  pub inherited_is : of_base 0 (λ b. get_or plan (INHERITED + b) 0 + (row_at t b).c) (base_of (form_of row))
      ≡ inherited_of t f r
  unfolding inherited_of
  inherited_is = base_counts row_base ∙ ap (λ x. of_base 0 (λ b. length (fields_of t f b)) (base_of x)) this_form

  -- what the places of its own fields ask
  pub offsets_fit : OffsetsFit f plan used (count_of (form_of row)) (of_base 0 held (base_of (form_of row)))
  offsets_fit = rw this_form (record { cells = room; low = types; total = whole })
    where
      fits : used + count_of (form t r) ≤ rows_of f
      fits = row_made.within (rw claimed (used_fits version t f r below))

      room : OFFSETS + (used + count_of (form t r)) ≤ length plan
      room = let rows = ready.few_fields in omega (arith, fits)

      types : (j : ℕ) → used ≤ j → j < used + count_of (form t r) → (row_at f j).a < 64
      types j low high = let l = field_low f r j (row_made.own.each j low high) in omega arith

      whole : of_base 0 held (base_of (form t r)) + sum (map held (own_types f used (count_of (form t r)))) ≤ 4096
      whole =
          let total = row_made.size held in
          let size = size_agree held (size_of t f) row_shape held_is ∙ sym (size_is t f r row_shape) in
          let small = (row_kept version t f r here).small in
          omega (arith, total, size, small)

  -- the plan once its places, its count and its size are written
  module _ (q : List ℕ) (above : ℕ) (o : Offsets f used (count_of (form_of row)) (of_base 0 held (base_of (form_of row))) plan q)
      (count : above ≡ inherited_of t f r) where
    abbrev next : List ℕ
    next = set (set q (INHERITED + r) above) r size

    other : (i : ℕ) → (i ≡ r → ⊥) → (i ≡ INHERITED + r → ⊥) → get_or next i 0 ≡ get_or q i 0
    other i a b =
        get_or-set_other (set q (INHERITED + r) above) r i size 0 a ∙ get_or-set_other q (INHERITED + r) i above 0 b

    next_size : (x : ℕ) → x < r + 1 → get_or next x 0 ≡ size_of t f x
    next_size x h = go (dec_lt x r)
      where
        go : Dec (x < r) → get_or next x 0 ≡ size_of t f x
        go (yes l) = other x (omega arith) (omega arith) ∙ o.below x (omega arith) ∙ planned.size x l
        go (no l) =
            let e : x ≡ r = omega arith in
            let same = o.cells in
            let kept = length-set q (INHERITED + r) above in
            let room : r < length (set q (INHERITED + r) above) = rw kept (omega arith) in
            rw e (get_or-set_same (set q (INHERITED + r) above) r size 0 room ∙ sized)

    next_inherited : (x : ℕ) → x < r + 1 → get_or next (INHERITED + x) 0 ≡ inherited_of t f x
    next_inherited x h = go (dec_lt x r)
      where
        go : Dec (x < r) → get_or next (INHERITED + x) 0 ≡ inherited_of t f x
        go (yes l) =
            other (INHERITED + x) (omega arith) (omega arith)
            ∙ o.below (INHERITED + x) (omega arith)
            ∙ planned.inherited x l
        go (no l) =
            let e : x ≡ r = omega arith in
            let same = o.cells in
            rw e
            (get_or-set_other (set q (INHERITED + r) above) r (INHERITED + r) size 0 (omega arith)
            ∙ get_or-set_same q (INHERITED + r) above 0 (omega arith)
            ∙ count)

    field_place_lem : (j : ℕ) → j < count_of (form_of row)
        → get_or q (OFFSETS + (used + j)) 0 ≡ of_base 0 held (base_of (form_of row)) + sum (map held (own_types f used j))
    field_place_lem j h = let at : OFFSETS + used + j ≡ OFFSETS + (used + j) = omega arith in rw at at (o.cell j h)

    own_place : (base first n j : ℕ) → form t r ≡ record_of base first n → j < n
        → get_or next (OFFSETS + (first + j)) 0 ≡ own_offset t f base first j
    unfolding own_offset
    own_place base first n j e h =
        let is = record_is row_shape e in
        let shape = this_form ∙ e in
        let few : j < count_of (form_of row) = rw (of_record shape).1 h in
        let own = fields_agree f held (size_of t f) r first j (record { each = λ k low high. is.own.each k low (omega arith) }) held_is in
        let base_size : of_base 0 held (base_of (form_of row)) ≡ of_base 0 (size_of t f) base =
        base_is ∙ ap (λ b. of_base 0 (size_of t f) b) (of_record e).0 in
        other (OFFSETS + (first + j)) (omega arith) (omega arith)
        ∙ rw is.claims (field_place_lem j few ∙ rw (base_size, ← is.claims, own))

    next_offset : (x base first n j : ℕ) → x < r + 1 → form t x ≡ record_of base first n → j < n
        → get_or next (OFFSETS + (first + j)) 0 ≡ own_offset t f base first j
    next_offset x base first n j h e l = go (dec_lt x r)
      where
        go : Dec (x < r) → get_or next (OFFSETS + (first + j)) 0 ≡ own_offset t f base first j
        go (yes low) =
            let is = record_is (row_kept version t f x (below.each x (omega arith) low)).shape e in
            let claims = is.claims in
            let counted : count_of (form t x) ≡ n = (of_record e).1 in
            let up = used_up t (suc x) r low in
            let more = used_next t x in
            other (OFFSETS + (first + j)) (omega arith) (omega arith)
            ∙ o.below (OFFSETS + (first + j)) (omega (arith, up, more, counted, claims, claimed))
            ∙ planned.offset x base first n j low e l
        go (no low) = let same : x ≡ r = omega arith in own_place base first n j (rw same at e) l

    pub plan_next : Plan t f (r + 1) next
    plan_next = record { size = next_size; inherited = next_inherited; offset = next_offset }

    pub rest_next : Rest t (r + 1) plan next
    rest_next = record {
      cells = simp length-set o.cells;
      sizes = λ i low high. other i (omega arith) (omega arith) ∙ o.below i (omega arith);
      inherited = λ i low high. other i (omega arith) (omega arith) ∙ o.below i (omega arith);
      offsets = λ i low. other i (beyond i low) (beyond_too i low) ∙ o.above i (let up = far i low in omega arith);
    }
      where
        far : (i : ℕ) → OFFSETS + used_below t (r + 1) ≤ i → OFFSETS + (used + count_of (form_of row)) ≤ i
        far i low =
            let one : r + 1 ≡ suc r = omega arith in
            let more = used_next t r in
            let counted : count_of (form_of row) ≡ count_of (form t r) = ap count_of this_form in
            let l = rw one at low in
            omega (arith, more, counted, l, claimed)

        beyond : (i : ℕ) → OFFSETS + used_below t (r + 1) ≤ i → i ≡ r → ⊥
        beyond i low e = omega arith

        beyond_too : (i : ℕ) → OFFSETS + used_below t (r + 1) ≤ i → i ≡ INHERITED + r → ⊥
        beyond_too i low e = omega arith

-- ---- the rows passed so far

pub plan_none : (t f plan : List ℕ) → Plan t f 0 plan
plan_none t f plan = record {
  size = λ r h. absurd (omega arith);
  inherited = λ r h. absurd (omega arith);
  offset = λ r base first n j h. absurd (omega arith);
}

pub rest_none : (t plan : List ℕ) → Rest t 0 plan plan
rest_none t plan = record { cells = refl; sizes = λ i a b. refl; inherited = λ i a b. refl; offsets = λ i a. refl }

-- what a row leaves of what the rows before it left
pub rest_more : (t : List ℕ) (r : ℕ) (old plan next : List ℕ) → Rest t r old plan → Rest t (r + 1) plan next → Rest t (r + 1) old next
rest_more t r old plan next a b = record {
  cells = b.cells ∙ a.cells;
  sizes = λ i low high. b.sizes i low high ∙ a.sizes i (omega arith) high;
  inherited = λ i low high. b.inherited i low high ∙ a.inherited i (omega arith) high;
  offsets = λ i low. b.offsets i low ∙ a.offsets i (let up = used_up t r (r + 1) (omega arith) in omega arith);
}
