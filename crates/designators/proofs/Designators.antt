-- What a field's cell says.
use Rattle.relations.specs.Fields.{field_at, field_of}
use Rattle.relations.specs.declared.FieldAt.{FieldAt}
use Rattle.std.specs.Prelude.{Option, Some, None}
use mathlib.Core.Path.{◌≡◌, sym, ◌∙◌, ap}
use mathlib.Core.Logic.{◌⊎◌, inl, inr}
use mathlib.Core.List.{List}
use Prim.Native.Nat.{ℕ, ◌+◌, ◌*◌, ◌≤◌, ◌<◌}
use native.Mathlib.Omega.{arith}
use native.Mathlib.Decide.{dec_lt}
use borrow.Author.Tests.{lt-ltb, le-ltb}
use Rattle.prelude.specs.Choice.{choose}
use Rattle.prelude.specs.Rec.{below}
use Rattle.prelude.proofs.Choice.{choose_yes, choose_no}
use Rattle.prelude.proofs.Rec.{rec_eq}
use Rattle.image.specs.Rows.{row_at}
use Rattle.designators.specs.Designators.{UNKNOWN, offset_in, type_in, record_in, field_cell}
use Rattle.designators.specs.Designators.{cell_by, cell_of}

-- ---- the cell of a field

-- its numbers have room
record Packed (d offset r cell : ℕ) : Type 0 where
  cell_is : cell ≡ offset * 65536 + r * 256 + d
  offset_low : offset ≤ 65535
  type_low : r ≤ 254
  record_low : d ≤ 254

-- they have, or the cell says nothing
packed : (d offset r : ℕ)
    → (field_cell d (Some (field_at offset r)) ≡ UNKNOWN) ⊎ Packed d offset r (field_cell d (Some (field_at offset r)))
unfolding field_cell
packed d offset r = go (dec_lt 65535 offset) (dec_lt 254 r) (dec_lt 254 d)
  where
    go : Dec (65535 < offset) → Dec (254 < r) → Dec (254 < d)
        → (field_cell d (Some (field_at offset r)) ≡ UNKNOWN) ⊎ Packed d offset r (field_cell d (Some (field_at offset r)))
    go (yes a) b c = inl (choose_yes _ _ _ (lt-ltb 65535 offset a))
    go (no a) (yes b) c =
        inl (choose_no _ _ _ (le-ltb 65535 offset (omega arith)) ∙ choose_yes _ _ _ (lt-ltb 254 r b))
    go (no a) (no b) (yes c) =
        inl
        (choose_no _ _ _ (le-ltb 65535 offset (omega arith))
        ∙ choose_no _ _ _ (le-ltb 254 r (omega arith))
        ∙ choose_yes _ _ _ (lt-ltb 254 d c))
    go (no a) (no b) (no c) = inr (record {
      cell_is =
          choose_no _ _ _ (le-ltb 65535 offset (omega arith))
          ∙ choose_no _ _ _ (le-ltb 254 r (omega arith))
          ∙ choose_no _ _ _ (le-ltb 254 d (omega arith));
      offset_low = omega arith;
      type_low = omega arith;
      record_low = omega arith;
    })

-- what the cell of a field says is so
packed_field : (e d : ℕ) (x : Option FieldAt) → d < 255 → record_in (field_cell e x) ≡ d
    → (e ≡ d) × (x ≡ Some (field_at (offset_in (field_cell e x)) (type_in (field_cell e x))))
unfolding field_cell
packed_field e d None low is = absurd (omega arith)
packed_field e d (Some x) low is = go (field_cell e (Some x)) (packed e x.offset x.declared) is
  where
    go : (cell : ℕ) → (cell ≡ UNKNOWN) ⊎ Packed e x.offset x.declared cell → record_in cell ≡ d
        → (e ≡ d) × (Some x ≡ Some (field_at (offset_in cell) (type_in cell)))
    go cell (inl none) same = absurd (omega arith)
    go cell (inr p) same =
        let place : x.offset ≡ offset_in cell = omega (arith, p.cell_is, p.type_low, p.record_low) in
        let type : x.declared ≡ type_in cell = omega (arith, p.cell_is, p.type_low, p.record_low) in
        (omega (arith, p.cell_is, p.record_low), rw (← place, ← type))

-- ---- the cell of a node

module _ (t f v n : List ℕ) (r : ℕ) where
  -- from the cells of lower rows
  pub cell_eq : cell_of t f v n r ≡ cell_by t f v (below UNKNOWN r (cell_of t f v n)) (row_at n r).kind (row_at n r)
  unfolding cell_of
  cell_eq = rec_eq UNKNOWN (λ cell k. cell_by t f v cell (row_at n k).kind (row_at n k)) r

  -- "2 field b .. of a": in record d, if the cell says so, the field begins where the cell says, and has its type
  pub field_cell_lem : (d : ℕ) → (row_at n r).kind ≡ 2 → d < 255 → record_in (cell_of t f v n r) ≡ d
      → field_of t f d (row_at n r).b ≡ Some (field_at (offset_in (cell_of t f v n r)) (type_in (cell_of t f v n r)))
  unfolding cell_by choose
  field_cell_lem d kind low is =
      let row = row_at n r in
      let cell = below UNKNOWN r (cell_of t f v n) in
      let e : ℕ = type_in (cell row.a) in
      let here : cell_of t f v n r ≡ field_cell e (field_of t f e row.b) =
      cell_eq ∙ ap (λ k. cell_by t f v cell k row) kind in
      let (same, found) = packed_field e d (field_of t f e row.b) low (sym (ap (λ c. record_in c) here) ∙ is) in
      ap (λ k. field_of t f k row.b) (sym same)
      ∙ found
      ∙ ap (λ c. Some (field_at (offset_in c) (type_in c))) (sym here)
