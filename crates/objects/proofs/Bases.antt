-- A record's base is looked into as a field, but for itself: its part of the record is no object.
use mathlib.Core.Path.{◌≡◌, refl, sym, ◌∙◌, ap}
use mathlib.Core.Bool.{Bool, true, false}
use mathlib.Core.List.{List, []}
use mathlib.Core.Logic.{◌⊎◌, inl, inr}
use Prim.Native.Nat.{ℕ, suc, ◌-◌, ◌<◌}
use native.Mathlib.Omega.{arith}
use borrow.Author.Tests.{eqb-true}
use lib.Dec.{eqb}
use lib.ListN.{get_or}
use Rattle.prelude.specs.Bits.{bit_of}
use Rattle.prelude.specs.Choice.{choose}
use Rattle.prelude.proofs.Choice.{choose_yes, choose_no, also_left}
use Rattle.image.specs.declared.Row.{Row}
use Rattle.image.specs.Rows.{row_at, rows_of}
use Rattle.shapes.specs.Forms.{of_base}
use Rattle.shapes.specs.Sizes.{fields_of}
use Rattle.shapes.proofs.Rows.{of_no_base, of_base_lem, of_row, by_bases}
use Rattle.shapes.proofs.Accepted.{Based, based_on}
use Rattle.objects.specs.Begins.{among, begins_at}
use Rattle.objects.specs.Looking.{held, Typed, Edges, said_of_base}
use Rattle.objects.proofs.Beginning.{itself_none}
use Rattle.objects.proofs.Records.{kept, on, base_lower, record_in_lem}
use Rattle.objects.proofs.Deciding.{part_record, by_parts, by_inner}

-- ---- what a table says of a base, case by case

module _ (s : List ℕ) (w a : ℕ) where
  pub said_none : a ≡ 0 → false ≡ said_of_base s w a
  unfolding said_of_base
  said_none e = sym (of_no_base false (λ u. choose (eqb u w) false (bit_of (get_or s u 0) w)) a e)

  pub said_some : {b : ℕ} → a ≡ suc b → said_of_base s w a ≡ choose (eqb b w) false (bit_of (get_or s b 0) w)
  unfolding said_of_base
  said_some some = of_row false (λ u. choose (eqb u w) false (bit_of (get_or s u 0) w)) some

-- ---- it is what begins there

module _ {t f plan : List ℕ} (typed : Typed t f plan) (w : ℕ) where
  fields_by_lem : (b : ℕ) → b < rows_of t → (row_at t b).kind ≡ 4 → (o : ℕ) → (eqb b w ≡ false) ⊎ (o ≡ 0 → ⊥)
      → begins_at t f w b o ≡ among (begins_at t f w) (held plan) (fields_of t f b) o
  fields_by_lem b low kind o (inl other) =
      by_parts typed w b low o (also_left _ other) ∙ sym (part_record typed b low refl (begins_at t f w) o kind)
  fields_by_lem b low kind o (inr some) =
      by_inner typed w b low o some ∙ sym (part_record typed b low refl (begins_at t f w) o kind)

  said_is : {r a : ℕ} → r < rows_of t → Based t r a → (s : List ℕ) (o : ℕ)
      → ((u : ℕ) → u < r → a ≡ suc u → bit_of (get_or s u 0) w ≡ begins_at t f w u o)
      → said_of_base s w a ≡ among (begins_at t f w) (held plan) (of_base [] (fields_of t f) a) o
  unfolding said_of_base among
  said_is {r} {a} low on s o table =
      by_bases (λ x l. x ≡ among (begins_at t f w) (held plan) l o) a refl (λ b is. go b is (eqb b w) refl)
    where
      go : (b : ℕ) → a ≡ suc b → (e : Bool) → eqb b w ≡ e → choose (eqb b w) false (bit_of (get_or s b 0) w)
          ≡ among (begins_at t f w) (held plan) (fields_of t f b) o
      go b is true e =
          let (l, kind) = based_on on is in
          let same : b ≡ w = eqb-true b w e in
          choose_yes _ _ _ e
          ∙ sym (part_record typed b (omega arith) refl (begins_at t f w) o kind
          ∙ rw same (itself_none t f (kept typed) w (held plan) o (rw (← same) (omega arith))))
      go b is false e =
          let (l, kind) = based_on on is in
          choose_no _ _ _ e ∙ table b l is ∙ fields_by_lem b (omega arith) kind o (inl e)

  -- ---- in the record in row r

  module _ (r : ℕ) (low : r < rows_of t) (kind : (row_at t r).kind ≡ 4) {row : Row} (this : row ≡ row_at t r) (o : ℕ) where
    abbrev inner : Bool
    inner = among (begins_at t f w) (held plan) (of_base [] (fields_of t f) row.a) o

    based : Based t r row.a
    based = on typed r low kind this

    -- behind the base's start
    module _ (some : 0 < row.a) (more : 0 < o) where
      inner_later : inner ≡ begins_at t f w (row.a - 1) o
      inner_later =
          let (less, on_record) = base_lower typed r low kind this some in
          ap (λ l. among (begins_at t f w) (held plan) l o) (of_base_lem [] (fields_of t f) row.a some)
          ∙ sym (fields_by_lem (row.a - 1) (omega arith) on_record o (inr (omega arith)))

      pub base_inside : {before : ℕ} → before ≡ of_base 0 (held plan) row.a → o < before
          → among (begins_at t f w) (held plan) (fields_of t f r) o ≡ begins_at t f w (row.a - 1) o
      base_inside is h = sym (record_in_lem typed r low kind this (begins_at t f w) is o h) ∙ inner_later

    module _ {starts ends : List ℕ} (edges : Edges (begins_at t f w) (held plan) w r starts ends) where
      pub said_start : o ≡ 0 → said_of_base starts w row.a ≡ inner
      said_start first = said_is low based starts o (λ u l e. edges.start u l ∙ rw first)

      pub said_end : o ≡ of_base 0 (held plan) row.a → said_of_base ends w row.a ≡ inner
      said_end last =
          said_is low based ends o (λ u l e. edges.end u l ∙ rw (last, of_row 0 (held plan) e))

      -- by the base's own word: where it has cells, none of its type begins at its end
      pub base_end : 0 < row.a → 0 < o → o ≡ of_base 0 (held plan) row.a
          → bit_of (get_or ends (row.a - 1) 0) w ≡ inner
      base_end some more last =
          edges.end (row.a - 1) (base_lower typed r low kind this some).0
          ∙ ap (λ k. begins_at t f w (row.a - 1) k) (sym (last ∙ of_base_lem 0 (held plan) row.a some))
          ∙ sym (inner_later some more)
