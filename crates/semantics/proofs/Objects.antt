-- Where objects, variables and frames stand, and what their cells are to hold.
use mathlib.Core.Path.{◌≡◌, refl, sym, ◌∙◌}
use mathlib.Core.Bool.{Bool, true, false}
use mathlib.Core.List.{List, [], ◌∷◌, append-nil}
use mathlib.Core.Logic.{◌⊎◌, inl, inr}
use Prim.Native.Nat.{ℕ, zero, suc, ◌+◌, ◌-◌, ◌≤◌, ◌<◌}
use native.Mathlib.Omega.{arith}
use native.Mathlib.Decide.{dec_lt}
use borrow.Author.Tests.{leb-true, eqb-true, ne_eqb, lt-ltb, le-ltb}
use lib.Dec.{ltb, eqb}
use lib.ListN.{length, length-append, length-map}
use Rattle.prelude.specs.Choice.{choose}
use Rattle.prelude.specs.Parts.{joined, Part}
use Rattle.prelude.proofs.Choice.{choose_yes, choose_no, also_true}
use Rattle.prelude.proofs.Parts.{part_part, part_more, part_back, part_map}
use Rattle.image.specs.Rows.{row_at, rows_of}
use Rattle.image.proofs.Bytes.{row_missing}
use Rattle.shapes.specs.Sizes.{size_of, layout_of}
use Rattle.shapes.proofs.Layouts.{layout_length, field_layout, element_layout, decide}
use Rattle.relations.specs.Extends.{extends}
use Rattle.relations.proofs.Extension.{extends_yes, extension_begins}
use Rattle.relations.proofs.Fielding.{field_nth}
use Rattle.frames.specs.Variables.{is_global, kind_within, globals_from, globals_of}
use Rattle.frames.specs.Procedures.{claimed_by, first_variable}
use Rattle.frames.proofs.Claiming.{globals_within}
use Rattle.places.specs.Places.{width_by, width_of, room_by, room_from, global_cells, frame_size, place_in}
use Rattle.places.proofs.Rooms.{width_var, width_other}
use Rattle.places.proofs.Counting.{first_none, first_next, first_grows}
use Rattle.places.proofs.Owning as Owning
use Rattle.typing.proofs.Lower.{field_row, element_row}
use Rattle.checker.proofs.Accepted.{AcceptedTables}
use Rattle.semantics.specs.Memory.{ADDRESS, TYPE}
use Rattle.semantics.specs.Layout.{Program, owner_from, owner_of, place_of, kinds_of, kinds_from}
use Rattle.semantics.specs.Sound.{Want, Want.any_value, Matched, Matched.no_more, Matched.one_more, Frame}
use Rattle.semantics.specs.Sound.{values_of, frame_wants, wants, room, Own, Object, Object.of_global}
use Rattle.names.specs.Names.{rows_from}
use Rattle.semantics.specs.Sound.{Object.of_frame, Object.of_older, Object.of_field, Object.of_element, Slot}
use Rattle.semantics.specs.Sound.{Slot.by_value, Slot.by_reference, Stack, Stack.a_frame}
use Rattle.semantics.proofs.Holding.{part_start}

-- ---- the variables of one run of rows

-- the first of some variables comes before the others
pub room_first : (size : ℕ → ℕ) (v : List ℕ) (k n : ℕ)
    → room_by size v k (suc n) ≡ width_by size v k + room_by size v (k + 1) n
unfolding room_by
room_first size v k zero = let q : k + 0 ≡ k = omega arith in rw q (omega arith)
room_first size v k (suc n) =
    let q : k + 1 + n ≡ k + suc n = omega arith in
    rw q (omega (arith, room_first size v k n))

-- ---- globals

-- the rows that are counted as globals are globals
globals_are : (v : List ℕ) (n k j : ℕ) → k ≤ j → j < globals_from v k n → is_global v j ≡ true
unfolding globals_from choose
globals_are v zero k j low high = absurd (omega arith)
globals_are v (suc n) k j low high = go (is_global v k) refl high (decide k j) (globals_are v n (k + 1) j)
  where
    go : (b : Bool) → is_global v k ≡ b → j < choose b (globals_from v (k + 1) n) k → (k ≡ j) ⊎ (k ≡ j → ⊥)
        → (k + 1 ≤ j → j < globals_from v (k + 1) n → is_global v j ≡ true) → is_global v j ≡ true
    go true e less (inl same) ih = rw (← same) e
    go true e less (inr other) ih = ih (omega arith) less
    go false e less same ih = absurd (omega arith)

pub global_is : (v : List ℕ) (k : ℕ) → is_global v k ≡ true → (row_at v k).kind ≡ 0
unfolding is_global
global_is v k e = eqb-true (row_at v k).kind 0 e

pub global_kind : (v : List ℕ) (k : ℕ) → k < globals_of v → (row_at v k).kind ≡ 0
unfolding globals_of
global_kind v k h = global_is v k (globals_are v (rows_of v) 0 k (omega arith) h)

module _ (g : Program) where
  pub kinds_width : (k : ℕ) → length (kinds_of g k) ≡ width_of g.types g.fields g.variables k
  unfolding kinds_of width_by choose
  kinds_width k = go (eqb (row_at g.variables k).kind 3)
    where
      a : ℕ
      a = (row_at g.variables k).a

      go : (var : Bool) → length (choose var (ADDRESS ∷ TYPE ∷ []) (layout_of g.types g.fields a))
          ≡ choose var 2 (size_of g.types g.fields a)
      go true = refl
      go false = layout_length g.types g.fields a

  -- variables' cells are as many as their room
  pub kinds_room : (n k : ℕ) → length (kinds_from g k n) ≡ room_from g.types g.fields g.variables k n
  unfolding kinds_from room_by
  kinds_room zero k = refl
  kinds_room (suc n) k =
      length-append (kinds_of g k) (kinds_from g (k + 1) n)
      ∙ (rw (kinds_width k, kinds_room n (k + 1))
      (sym (room_first (size_of g.types g.fields) g.variables k n)))

  kinds_part : (n k j : ℕ) → j < n
      → Part (kinds_from g k n) (room_from g.types g.fields g.variables k j) (kinds_of g (k + j))
  unfolding kinds_from room_by
  kinds_part zero k j h = absurd (omega arith)
  kinds_part (suc n) k zero h =
      let q : k + 0 ≡ k = omega arith in
      rw q (part_start (kinds_of g k) (kinds_from g (k + 1) n))
  kinds_part (suc n) k (suc j) h =
      let row : k + 1 + j ≡ k + suc j = omega arith in
      let place = room_first (size_of g.types g.fields) g.variables k j in
      let part = part_part (part_back (kinds_of g k) (kinds_from g (k + 1) n)) (kinds_part n (k + 1) j (omega arith)) in
      rw (place, ← kinds_width k, ← row) part

  -- a variable that is no VAR parameter has its type's layout
  pub kinds_value : (k : ℕ) → (row_at g.variables k).kind ≤ 2
      → kinds_of g k ≡ layout_of g.types g.fields (row_at g.variables k).a
  unfolding kinds_of
  kinds_value k h = choose_no _ _ _ (ne_eqb (row_at g.variables k).kind 3 (λ e. absurd (omega arith)))

  -- a global's cells stand below every frame
  global_part : (fs : List Frame) (k : ℕ) → k < globals_of g.variables
      → Part (wants g fs) (room_from g.types g.fields g.variables 0 k) (values_of g (row_at g.variables k).a)
  unfolding wants values_of
  global_part [] k h =
      let kind = global_kind g.variables k h in
      let row : 0 + k ≡ k = omega arith in
      let part = rw row at (kinds_part (globals_of g.variables) 0 k h) in
      part_map any_value (rw (kinds_value k (omega arith)) at part)
  global_part (f ∷ fs) k h = part_more (frame_wants g f) (global_part fs k h)

  -- ---- the variables of a frame

  pub values_length : (r : ℕ) → length (values_of g r) ≡ size_of g.types g.fields r
  unfolding values_of
  values_length r = length-map (layout_of g.types g.fields r) any_value ∙ layout_length g.types g.fields r

  -- a variable's cells are as many as its width
  pub slot_width : {fs : List Frame} {k : ℕ} {ws : List Want} → Slot g fs k ws
      → length ws ≡ width_of g.types g.fields g.variables k
  slot_width {k = k} (by_value kind) =
      values_length (row_at g.variables k).a
      ∙ sym (width_other (size_of g.types g.fields) g.variables k (λ e. absurd (omega arith)))
  slot_width {k = k} (by_reference kind o e) = sym (width_var (size_of g.types g.fields) g.variables k kind)

  slots_room : {fs : List Frame} {slots : List (List Want)} (n k : ℕ) → Matched (Slot g fs) (rows_from k n) slots
      → length (joined slots) ≡ room_from g.types g.fields g.variables k n
  unfolding rows_from joined room_by
  slots_room zero k no_more = refl
  slots_room (suc n) k (one_more {b = ws} {r = rest} s h) =
      length-append ws (joined rest)
      ∙ (rw (slot_width s, slots_room n (k + 1) h)
      (sym (room_first (size_of g.types g.fields) g.variables k n)))

  -- variable j of those from row k on
  pub record Standing (fs : List Frame) (slots : List (List Want)) (k j : ℕ) : Type 0 where
    pub cells : List Want
    pub slot : Slot g fs (k + j) cells
    pub part : Part (joined slots) (room_from g.types g.fields g.variables k j) cells

  slots_part : {fs : List Frame} {slots : List (List Want)} (n k j : ℕ) → Matched (Slot g fs) (rows_from k n) slots
      → j < n → Standing fs slots k j
  unfolding rows_from joined room_by
  slots_part zero k j h less = absurd (omega arith)
  slots_part (suc n) k zero (one_more {b = ws} {r = rest} s h) less =
      let q : k + 0 ≡ k = omega arith in
      record { cells = ws; slot = rw q s; part = part_start ws (joined rest) }
  slots_part (suc n) k (suc j) (one_more {b = ws} {r = rest} s h) less =
      let below = slots_part n (k + 1) j h (omega arith) in
      let row : k + 1 + j ≡ k + suc j = omega arith in
      let place = room_first (size_of g.types g.fields) g.variables k j in
      record {
        cells = below.cells;
        slot = rw row at below.slot;
        part = rw (place, ← slot_width s) (part_part (part_back ws (joined rest)) below.part);
      }

  -- the same of row i
  standing_row : {fs : List Frame} {slots : List (List Want)} {k j i : ℕ} → k + j ≡ i → Standing fs slots k j
      → (ws : List Want) × Slot g fs i ws × Part (joined slots) (room_from g.types g.fields g.variables k j) ws
  standing_row e stands = (stands.cells, rw e at stands.slot, stands.part)

  -- behind the links come the variables
  links_part : (f : Frame) → Part (frame_wants g f) 3 (joined f.slots)
  unfolding frame_wants
  links_part f = record { rest = []; seen = sym (append-nil (joined f.slots)); within = omega arith }

  -- ---- who owns a variable

  -- a row that is not there claims nothing
  first_past : (q : ℕ) → rows_of g.procedures ≤ q
      → first_variable g.variables g.procedures (suc q)
      ≡ first_variable g.variables g.procedures q
  unfolding claimed_by
  first_past q h = first_next g.variables g.procedures q ∙ rw (row_missing g.procedures q h) (omega arith)

module _ (g : Program)
    (ok : AcceptedTables g.types g.fields g.variables g.procedures g.nodes g.statements) where
  -- ---- types

  first_within : (q : ℕ) → first_variable g.variables g.procedures q ≤ rows_of g.variables
  first_within zero = rw (first_none g.variables g.procedures) (globals_within g.variables)
  first_within (suc q) = go (dec_lt q (rows_of g.procedures)) (first_within q)
    where
      go : Dec (q < rows_of g.procedures) → first_variable g.variables g.procedures q ≤ rows_of g.variables
          → first_variable g.variables g.procedures (suc q) ≤ rows_of g.variables
      go (yes less) below =
          rw (← ok.procedures.claimed)
          (first_grows g.variables g.procedures (suc q) (rows_of g.procedures) less)
      go (no past) below = rw (first_past g q (omega arith)) below

  own_within : {q k : ℕ} → Own g q k → k < rows_of g.variables
  own_within {q} own = let high = own.high in let within = first_within (q + 1) in omega arith

  -- an object's type is a row
  pub object_typed : {fs : List Frame} {at r : ℕ} → Object g fs at r → r < rows_of g.types
  object_typed (of_global k h) = (ok.variable k (omega (arith, globals_within g.variables))).typed
  object_typed (of_frame {k = k} own kind) = (ok.variable k (own_within own)).typed
  object_typed (of_older o) = object_typed o
  object_typed (of_field {r = r} {offset = offset} {u = u} j o e) =
      field_row g.types g.fields ok.types r j offset u (object_typed o) e
  object_typed (of_element {r = r} o kind less) =
      element_row g.types g.fields ok.types r (object_typed o) kind

  -- ---- frames

  -- what the cells of the newest frame's variable hold, and where they stand
  pub slot_at : {f : Frame} {fs : List Frame} → Stack g (f ∷ fs) → (k : ℕ) → Own g f.procedure k
      → (ws : List Want) × Slot g fs k ws
      × Part (wants g (f ∷ fs))
      (room g fs + place_in g.types g.fields g.variables g.procedures f.procedure k) ws
  unfolding wants place_in
  slot_at {f} {fs} (a_frame st low called slots) k own =
      let q : ℕ = f.procedure in
      let first : ℕ = first_variable g.variables g.procedures q in
      let n : ℕ = claimed_by (row_at g.procedures q) in
      let one : q + 1 ≡ suc q = omega arith in
      let high = rw one at own.high in
      let start = own.low in
      let row : first + (k - first) ≡ k = omega arith in
      let claimed : k - first < n = omega (arith, high, first_next g.variables g.procedures q) in
      let (ws, slot, part) = standing_row g row (slots_part g n first (k - first) slots claimed) in
      (ws, slot, part_part (part_back (wants g fs) (frame_wants g f)) (part_part (links_part g f) part))

  pub slots_length : {f : Frame} {fs : List Frame} → Stack g (f ∷ fs)
      → length (frame_wants g f) ≡ frame_size g.types g.fields g.variables g.procedures f.procedure
  unfolding frame_wants frame_size
  slots_length {f} (a_frame st low called slots) =
      let q : ℕ = f.procedure in
      let first : ℕ = first_variable g.variables g.procedures q in
      omega (arith, slots_room g (claimed_by (row_at g.procedures q)) first slots)

  pub room_next : {f : Frame} {fs : List Frame} → Stack g (f ∷ fs)
      → room g (f ∷ fs) ≡ room g fs + frame_size g.types g.fields g.variables g.procedures f.procedure
  unfolding wants
  room_next {f} {fs} st = length-append (wants g fs) (frame_wants g f) ∙ rw (slots_length st)

  pub room_globals : room g [] ≡ global_cells g.types g.fields g.variables
  unfolding wants global_cells
  room_globals =
      length-map (kinds_from g 0 (globals_of g.variables)) any_value
      ∙ kinds_room g (globals_of g.variables) 0

  -- ---- objects

  value_slot : {fs : List Frame} {k : ℕ} {ws : List Want} → Slot g fs k ws → (row_at g.variables k).kind ≤ 2
      → ws ≡ values_of g (row_at g.variables k).a
  value_slot (by_value kind) low = refl
  value_slot (by_reference kind o e) low = absurd (omega arith)

  -- an object's cells are to hold its type's layout
  pub object_part : {fs : List Frame} {at r : ℕ} → Stack g fs → Object g fs at r → Part (wants g fs) at (values_of g r)
  unfolding wants values_of
  object_part {fs} st (of_global k h) = global_part g fs k h
  object_part st (of_frame {k = k} own kind) =
      let (ws, slot, part) = slot_at st k own in
      rw (value_slot slot kind) at part
  object_part (a_frame st low called slots) (of_older {f = f} o) = part_more (frame_wants g f) (object_part st o)
  object_part st (of_field {r = r} {offset = offset} {u = u} j o e) =
      let (place, nth) = field_nth g.types g.fields r j offset u e in
      let inner = part_map any_value (field_layout g.types g.fields ok.types r j u (object_typed o) nth) in
      rw place (part_part (object_part st o) inner)
  object_part st (of_element {r = r} {i = i} o kind less) =
      let inner = element_layout g.types g.fields ok.types r i (object_typed o) kind less in
      part_part (object_part st o) (part_map any_value inner)

  -- and they begin with the layout of every type that it extends
  pub object_front : {fs : List Frame} {at r : ℕ} (u : ℕ) → Stack g fs → Object g fs at r
      → extends g.types r u ≡ true → Part (wants g fs) at (values_of g u)
  unfolding values_of
  object_front {at = at} {r} u st o e =
      let start : at + 0 ≡ at = omega arith in
      let extension = extends_yes g.types r u e in
      let front = (extension_begins g.types g.fields ok.types extension (object_typed o)).layout in
      rw start at (part_part (object_part st o) (part_map any_value front))

  -- ---- places of variables

  -- a procedure's variable is a local or a parameter
  pub own_kind : (q k : ℕ) → q < rows_of g.procedures → Own g q k
      → (1 ≤ (row_at g.variables k).kind) × ((row_at g.variables k).kind ≤ 3)
  unfolding kind_within claimed_by
  own_kind q k less own = go (dec_lt k (first_variable g.variables g.procedures q + (row_at g.procedures q).b))
    where
      go : Dec (k < first_variable g.variables g.procedures q + (row_at g.procedures q).b)
          → (1 ≤ (row_at g.variables k).kind) × ((row_at g.variables k).kind ≤ 3)
      go (yes parameter) =
          let (low, high) = also_true _ _ ((ok.procedures.row q less).parameters.each k own.low parameter) in
          let least : 2 ≤ (row_at g.variables k).kind = leb-true _ _ low in
          (omega arith, leb-true _ _ high)
      go (no local) =
          let one : q + 1 ≡ suc q = omega arith in
          let last = rw one at own.high in
          let next = first_next g.variables g.procedures q in
          let local_row = (ok.procedures.row q less).locals.each k (omega arith) (omega (arith, last, next)) in
          let (low, high) = also_true _ _ local_row in
          let most : (row_at g.variables k).kind ≤ 1 = leb-true _ _ high in
          (leb-true _ _ low, omega arith)

  owner_is : (q k : ℕ) → Own g q k → (n i : ℕ) → i ≤ q → q < i + n → owner_from g.variables g.procedures k i n ≡ q
  unfolding owner_from
  owner_is q k own zero i low high = absurd (omega arith)
  owner_is q k own (suc n) i low high = go (decide i q) (owner_is q k own n (i + 1))
    where
      go : (i ≡ q) ⊎ (i ≡ q → ⊥)
          → (i + 1 ≤ q → q < i + 1 + n → owner_from g.variables g.procedures k (i + 1) n ≡ q)
          → choose (ltb k (first_variable g.variables g.procedures (i + 1))) i
          (owner_from g.variables g.procedures k (i + 1) n) ≡ q
      go (inl same) ih = choose_yes _ _ _ (lt-ltb k _ (rw same own.high)) ∙ same
      go (inr other) ih =
          let grows = first_grows g.variables g.procedures (i + 1) q (omega arith) in
          let start = own.low in
          let past : first_variable g.variables g.procedures (i + 1) ≤ k = omega arith in
          choose_no _ _ _ (le-ltb k _ past) ∙ ih (omega arith) (omega arith)

  -- a variable stands where its procedure's frame has it
  pub place_own : (q k : ℕ) → q < rows_of g.procedures → Own g q k
      → place_of g k ≡ place_in g.types g.fields g.variables g.procedures q k
  unfolding place_of owner_of is_global
  place_own q k less own =
      let kind = (own_kind q k less own).0 in
      choose_no _ _ _ (ne_eqb (row_at g.variables k).kind 0 (λ e. absurd (omega arith)))
      ∙ rw (owner_is q k own (rows_of g.procedures) 0 (omega arith) (omega arith))

  -- the j-th variable of a procedure: it is the procedure's own, it is there, it stands behind those before it, and ends
  -- within the frame
  module _ (q : ℕ) (exists : q < rows_of g.procedures) (j : ℕ) (claimed : j < claimed_by (row_at g.procedures q)) where
    abbrev first : ℕ
    first = first_variable g.variables g.procedures q

    pub claimed_own : Own g q (first + j)
    claimed_own =
        let one : q + 1 ≡ suc q = omega arith in
        record { low = omega arith; high = rw one (omega (arith, first_next g.variables g.procedures q)) }

    pub claimed_there : first + j < rows_of g.variables
    claimed_there = own_within claimed_own

    pub claimed_place : place_of g (first + j) ≡ 3 + room_from g.types g.fields g.variables first j
    unfolding place_in
    claimed_place =
        let back : (first + j) - first ≡ j = omega arith in
        place_own q (first + j) exists claimed_own ∙ rw back

    pub claimed_within : place_of g (first + j) + width_of g.types g.fields g.variables (first + j)
        ≤ frame_size g.types g.fields g.variables g.procedures q
    claimed_within =
        rw (place_own q (first + j) exists claimed_own)
        (Owning.own_within g.types g.fields g.variables g.procedures q (first + j)
        (record { low = claimed_own.low; high = claimed_own.high }))

  pub place_global : (k : ℕ) → is_global g.variables k ≡ true
      → place_of g k ≡ room_from g.types g.fields g.variables 0 k
  unfolding place_of
  place_global k e = choose_yes _ _ _ e
