-- A state that the test passes is sound, its cells taken by place.
use mathlib.Core.Path.{◌≡◌, refl, sym, ◌∙◌, ap}
use mathlib.Core.Bool.{true}
use mathlib.Core.List.{List, [], ◌∷◌, ◌++◌, map}
use mathlib.Core.Logic.{⊎_elim}
use Prim.Native.Nat.{ℕ, zero, suc, ◌+◌, ◌-◌, ◌≤◌, ◌<◌}
use native.Mathlib.Omega.{arith}
use borrow.Author.Tests.{leb-true, ltb-true, eqb-true, eqb-false, eq-eqb}
use lib.Dec.{eqb}
use lib.IntN.{ℤ, pos, negsuc}
use lib.ListN.{length, take, drop, length-append, length-drop, length-map}
use lib.Seq.{take-append-le, take-length}
use Rattle.statements.specs.Statements.{procedure_at}
use Rattle.semantics.specs.declared.Registers.{Registers}
use Rattle.semantics.specs.Sound.{Sound}
use Rattle.asking.specs.State.{chain, frames_of, ends_at, sound_of}
use Rattle.prelude.specs.Parts.{joined}
use Rattle.prelude.proofs.Choice.{choose_yes, choose_cases, also_true, clash}
use Rattle.image.specs.Rows.{row_at, rows_of}
use Rattle.shapes.specs.Sizes.{size_of, layout_of}
use Rattle.frames.specs.Variables.{globals_of}
use Rattle.frames.specs.Procedures.{first_variable, claimed_by}
use Rattle.names.specs.Names.{rows_from}
use Rattle.places.proofs.Counting.{first_next}
use Rattle.places.specs.Places.{width_of, room_from, global_cells, frame_size}
use Rattle.values.specs.Values.{cell_of, Answer}
use Rattle.checker.proofs.Accepted.{AcceptedTables}
use Rattle.semantics.specs.Memory.{LINK, ADDRESS, TYPE, Cell, tagged}
use Rattle.semantics.specs.Layout.{Program, kinds_of, kinds_from}
use Rattle.semantics.specs.Sound.{Want, Want.any_value, Want.exactly, Fits, Fits.fits_value, Fits.fits_exactly, Matched}
use Rattle.semantics.specs.Sound.{Matched.no_more, Matched.one_more, Frame, Stack, Stack.no_frame, Stack.a_frame, Slot}
use Rattle.semantics.specs.Sound.{Slot.by_value, Slot.by_reference, Called, Called.is_first, Called.is_called, Inside}
use Rattle.semantics.specs.Sound.{values_of, frame_wants, wants}
use Rattle.semantics.proofs.Objects.{kinds_room, kinds_width, kinds_value, room_first, own_kind}
use Rattle.semantics.proofs.Holding.{matched_append}
use Rattle.asking.specs.Asking.{room_of}
use Rattle.asking.specs.Resuming.{resumed}
use Rattle.asking.specs.State.{is_number, natural_of, is_value, values_kept, zipped, dressed, kinds_below, inside_kept}
use Rattle.asking.specs.State.{reference_kept, slot_kept, slots_kept, call_kept, links_kept, frame_kept, stack_kept}
use Rattle.asking.proofs.Objects.{procedures_of, room_is, yes_object}
use Rattle.std.specs.Prelude.{Ok, Err}

-- ---- numbers

pub number_is : (z : ℤ) (n : ℕ) → is_number z n ≡ true → z ≡ pos n
unfolding is_number
number_is (pos m) n e = ap pos (eqb-true m n e)
number_is (negsuc m) n e = clash (sym e)

-- ---- numbers with kinds

zipped_append : (ks ms : List ℕ) (l : List ℤ) → length ks ≤ length l
    → zipped (ks ++ ms) l ≡ zipped ks l ++ zipped ms (drop (length ks) l)
unfolding zipped
zipped_append [] ms l h = refl
zipped_append (k ∷ ks) ms [] h = absurd (omega arith)
zipped_append (k ∷ ks) ms (z ∷ l) h =
    ap (λ (r : List Cell). record { kind = k; number = z } ∷ r) (zipped_append ks ms l (omega arith))

value_of : (x : Answer) → is_value x ≡ true → (v : _) × (x ≡ Ok v)
unfolding is_value
value_of (Ok v) e = (v, refl)
value_of (Err stop) e = clash (sym e)

values_fit : (ks : List ℕ) (l : List ℤ) → values_kept ks l ≡ true → Matched Fits (zipped ks l) (map any_value ks)
unfolding values_kept zipped
values_fit [] l e = no_more
values_fit (k ∷ ks) [] e = clash (sym e)
values_fit (k ∷ ks) (z ∷ l) e =
    let (one, rest) = also_true _ _ e in
    let (v, is) = value_of (cell_of k z) one in
    one_more (fits_value refl is) (values_fit ks l rest)

module _ (g : Program)
    (ok : AcceptedTables g.types g.fields g.variables g.procedures g.nodes g.statements) where
  -- ---- variables

  module _ (fs : List Frame) (st : Stack g fs) where
    abbrev qs : List ℕ
    qs = procedures_of fs

    -- what one variable's cells are to hold, and that they do
    record OneSlot (k : ℕ) (l : List ℤ) : Type 0 where
      cells : List Want
      slot : Slot g fs k cells
      fits : Matched Fits (zipped (kinds_of g k) l) cells

    var_kinds : (k : ℕ) → (row_at g.variables k).kind ≡ 3 → kinds_of g k ≡ ADDRESS ∷ TYPE ∷ []
    unfolding kinds_of
    var_kinds k e = choose_yes _ _ _ (eq-eqb _ 3 e)

    reference_slot : (k : ℕ) (l : List ℤ) → (row_at g.variables k).kind ≡ 3
        → reference_kept g qs (row_at g.variables k).a l ≡ true → OneSlot k l
    unfolding reference_kept zipped
    reference_slot k [] kind e = clash (sym e)
    reference_slot k (x ∷ []) kind e = clash (sym e)
    reference_slot k (x ∷ y ∷ l) kind e =
        let (a, e₁) = also_true _ _ e in
        let (b, e₂) = also_true _ _ e₁ in
        let (extension, object) = also_true _ _ e₂ in
        record {
          cells = exactly ADDRESS (natural_of x) ∷ exactly TYPE (natural_of y) ∷ [];
          slot = by_reference kind (yes_object g ok (natural_of y) fs (natural_of x) st object) extension;
          fits = rw (var_kinds k kind)
              (one_more (fits_exactly refl (number_is x _ a)) (one_more (fits_exactly refl (number_is y _ b)) no_more));
        }

    value_slot : (k : ℕ) (l : List ℤ) → (row_at g.variables k).kind ≤ 2
        → values_kept (layout_of g.types g.fields (row_at g.variables k).a) l ≡ true → OneSlot k l
    unfolding values_of
    value_slot k l kind e = record {
      cells = values_of g (row_at g.variables k).a;
      slot = by_value kind;
      fits = rw (kinds_value g k kind) (values_fit _ l e);
    }

    one_slot : (k : ℕ) (l : List ℤ) → (row_at g.variables k).kind ≤ 3 → slot_kept g qs k l ≡ true → OneSlot k l
    unfolding slot_kept
    one_slot k l most e =
        ⊎_elim (λ a. reference_slot k l (eqb-true _ _ a.0) a.1)
        (λ a.
        let other : (row_at g.variables k).kind ≡ 3 → ⊥ = eqb-false _ _ a.0 in
        value_slot k l (omega arith) a.1)
        (choose_cases (eqb (row_at g.variables k).kind 3) e)

    -- the same of n variables from row k on
    record Slots (k n : ℕ) (l : List ℤ) : Type 0 where
      slots : List (List Want)
      each : Matched (Slot g fs) (rows_from k n) slots
      fits : Matched Fits (zipped (kinds_from g k n) l) (joined slots)

    more_slots : (k n : ℕ) (l : List ℤ) → length (kinds_of g k) ≤ length l → OneSlot k l
        → Slots (k + 1) n (drop (width_of g.types g.fields g.variables k) l) → Slots k (suc n) l
    unfolding rows_from kinds_from joined
    more_slots k n l long o after =
        let width = kinds_width g k in
        let split = zipped_append (kinds_of g k) (kinds_from g (k + 1) n) l long in
        record {
          slots = o.cells ∷ after.slots;
          each = one_more o.slot after.each;
          fits = rw (split, width) (matched_append o.fits after.fits);
        }

    some_slots : (n k : ℕ) (l : List ℤ) → ((j : ℕ) → k ≤ j → j < k + n → (row_at g.variables j).kind ≤ 3)
        → room_from g.types g.fields g.variables k n ≤ length l → slots_kept g qs k n l ≡ true → Slots k n l
    unfolding slots_kept rows_from kinds_from joined zipped
    some_slots zero k l most long e = record { slots = []; each = no_more; fits = no_more }
    some_slots (suc n) k l most long e =
        let (one, rest) = also_true _ _ e in
        let width = kinds_width g k in
        let first = room_first (size_of g.types g.fields) g.variables k n in
        let o = one_slot k l (most k (omega arith) (omega arith)) one in
        let after = some_slots n (k + 1) (drop (width_of g.types g.fields g.variables k) l)
        (λ j low high. most j (omega arith) (omega arith))
        (omega (arith, first, length-drop (width_of g.types g.fields g.variables k) l)) rest in
        more_slots k n l (omega (arith, width, first)) o after

  -- ---- frames

  abbrev own_first : ℕ → ℕ
  own_first q = first_variable g.variables g.procedures q

  abbrev own_count : ℕ → ℕ
  own_count q = claimed_by (row_at g.procedures q)

  inside : (q r : ℕ) → inside_kept g q r ≡ true → Inside g q r
  unfolding inside_kept
  inside q r e =
      let (a, e₁) = also_true _ _ e in
      let (b, c) = also_true _ _ e₁ in
      record { procedure = ltb-true _ _ a; start = leb-true _ _ b; end = ltb-true _ _ c }

  -- the frames, and that the cells hold what they want
  record Frames (qs : List ℕ) (store : List ℤ) : Type 0 where
    frames : List Frame
    named : procedures_of frames ≡ qs
    stack : Stack g frames
    fits : Matched Fits (zipped (kinds_below g qs) store) (wants g frames)

  kinds_below_lem : (qs : List ℕ) → length (kinds_below g qs) ≡ room_of g qs
  unfolding kinds_below room_of global_cells frame_size
  kinds_below_lem [] = kinds_room g (globals_of g.variables) 0
  kinds_below_lem (q ∷ qs) =
      let first = first_variable g.variables g.procedures q in
      let own = kinds_from g first (claimed_by (row_at g.procedures q)) in
      omega (
        arith,
        length-append (kinds_below g qs) (LINK ∷ LINK ∷ LINK ∷ own),
        kinds_below_lem qs,
        kinds_room g (claimed_by (row_at g.procedures q)) first,
      )

  -- a frame's links, and that they are those of a frame that was called
  record Links (q : ℕ) (fs : List Frame) (x y z : ℤ) : Type 0 where
    caller : ℕ
    back : ℕ
    base : ℕ
    is_caller : x ≡ pos caller
    is_back : y ≡ pos back
    is_base : z ≡ pos base
    called : (slots : List (List Want))
        → Called g (record { procedure = q; caller = caller; back = back; callers_base = base; slots = slots }) fs

  links_of : (q : ℕ) (fs : List Frame) → Stack g fs → (x y z : ℤ) → links_kept g q (procedures_of fs) x y z ≡ true
      → Links q fs x y z
  unfolding links_kept call_kept
  links_of q [] st x y z e =
      let (a, e₁) = also_true _ _ e in
      let (b, e₂) = also_true _ _ e₁ in
      let (c, d) = also_true _ _ e₂ in
      record {
        caller = 0;
        back = 0;
        base = 0;
        is_caller = number_is x 0 b;
        is_back = number_is y 0 c;
        is_base = number_is z 0 d;
        called = λ slots. is_first (eqb-true _ _ a) refl refl refl;
      }
  links_of q (f ∷ fs) (a_frame st low called slots) x y z e =
      let (call, e₁) = also_true _ _ e in
      let (b, e₂) = also_true _ _ e₁ in
      let (c, d) = also_true _ _ e₂ in
      let (some, c₁) = also_true _ _ call in
      let (kind, c₂) = also_true _ _ c₁ in
      let (this, c₃) = also_true _ _ c₂ in
      let (one, two) = also_true _ _ c₃ in
      let least : 1 ≤ natural_of y = leb-true _ _ some in
      let next : natural_of y ≡ natural_of y - 1 + 1 = omega arith in
      let here = inside f.procedure (natural_of y - 1) one in
      let behind = rw next at (inside f.procedure (natural_of y) two) in
      record {
        caller = f.procedure;
        back = natural_of y;
        base = room_of g (procedures_of fs);
        is_caller = number_is x _ b;
        is_back = number_is y _ c;
        is_base = number_is z _ d;
        called = λ slots. is_called (natural_of y - 1) (eqb-true _ _ kind) (eqb-true _ _ this) here behind refl next
            (sym (room_is g ok st));
      }

  -- three cells of links, then the variables'
  frame_fits : (kinds : List ℕ) (x y z : ℤ) (l : List ℤ) (f : Frame) → x ≡ pos f.caller → y ≡ pos f.back
      → z ≡ pos f.callers_base → Matched Fits (zipped kinds l) (joined f.slots)
      → Matched Fits (zipped (LINK ∷ LINK ∷ LINK ∷ kinds) (x ∷ y ∷ z ∷ l)) (frame_wants g f)
  unfolding zipped frame_wants
  frame_fits kinds x y z l f a b c h =
      one_more (fits_exactly refl a) (one_more (fits_exactly refl b) (one_more (fits_exactly refl c) h))

  own_most : (q j : ℕ) → q < rows_of g.procedures → own_first q ≤ j → j < own_first q + own_count q
      → (row_at g.variables j).kind ≤ 3
  own_most q j low a b =
      let one : q + 1 ≡ suc q = omega arith in
      let next = first_next g.variables g.procedures q in
      (own_kind g ok q j low (record { low = a; high = rw one (omega (arith, next)) })).1

  room_more : (q : ℕ) (qs : List ℕ) → room_of g (q ∷ qs)
      ≡ room_of g qs + (3 + room_from g.types g.fields g.variables (own_first q) (own_count q))
  unfolding room_of frame_size
  room_more q _ = refl

  globals_fit : (store : List ℤ) → values_kept (kinds_from g 0 (globals_of g.variables)) store ≡ true
      → Matched Fits (zipped (kinds_below g []) store) (wants g [])
  unfolding kinds_below wants
  globals_fit store e = values_fit _ store e

  whole_fits : (q : ℕ) (qs : List ℕ) (store l : List ℤ) → drop (room_of g qs) store ≡ l
      → room_of g (q ∷ qs) ≤ length store → (f : Frame) (fs : List Frame)
      → Matched Fits (zipped (kinds_below g qs) store) (wants g fs)
      → Matched Fits (zipped (LINK ∷ LINK ∷ LINK ∷ kinds_from g (own_first q) (own_count q)) l) (frame_wants g f)
      → Matched Fits (zipped (kinds_below g (q ∷ qs)) store) (wants g (f ∷ fs))
  unfolding kinds_below wants
  whole_fits q qs store l at long f fs before own =
      let below = kinds_below_lem qs in
      let kinds : List ℕ = LINK ∷ LINK ∷ LINK ∷ kinds_from g (own_first q) (own_count q) in
      let split = zipped_append (kinds_below g qs) kinds store (omega (arith, below, room_more q qs)) in
      rw (split, below, at) (matched_append before own)

  next_frame : (q : ℕ) (qs : List ℕ) (store l : List ℤ) → drop (room_of g qs) store ≡ l
      → room_of g (q ∷ qs) ≤ length store → frame_kept g q qs l ≡ true → Frames qs store → Frames (q ∷ qs) store
  unfolding frame_kept
  next_frame q qs store [] at long e before = clash (sym e)
  next_frame q qs store (x ∷ []) at long e before = clash (sym e)
  next_frame q qs store (x ∷ y ∷ []) at long e before = clash (sym e)
  next_frame q qs store (x ∷ y ∷ z ∷ l) at long e before =
      let (low, e₁) = also_true _ _ e in
      let (links, slots) = also_true _ _ e₁ in
      let there = ltb-true _ _ low in
      let fs = before.frames in
      let made = links_of q fs before.stack x y z (rw before.named links) in
      let size = room_more q qs in
      let left = sym (ap length at) ∙ length-drop (room_of g qs) store in
      let some = some_slots fs before.stack (own_count q) (own_first q) l (λ j a b. own_most q j there a b)
      (omega (arith, size, left)) (rw before.named slots) in
      let f : Frame = record {
        procedure = q;
        caller = made.caller;
        back = made.back;
        callers_base = made.base;
        slots = some.slots;
      } in
      let own = frame_fits (kinds_from g (own_first q) (own_count q)) x y z l f made.is_caller made.is_back
      made.is_base some.fits in
      record {
        frames = f ∷ fs;
        named = ap (λ r. q ∷ r) before.named;
        stack = a_frame before.stack there (made.called some.slots) some.each;
        fits = whole_fits q qs store (x ∷ y ∷ z ∷ l) at long f fs before.fits own;
      }

  stack_built : (qs : List ℕ) (store : List ℤ) → room_of g qs ≤ length store → stack_kept g qs store ≡ true
      → Frames qs store
  unfolding stack_kept
  stack_built [] store long e = record {
    frames = [];
    named = refl;
    stack = no_frame;
    fits = globals_fit store e;
  }
  stack_built (q ∷ qs) store long e =
      let (before, this) = also_true _ _ e in
      next_frame q qs store (drop (room_of g qs) store) refl long this
      (stack_built qs store (let l = room_more q qs in omega arith) before)

  -- ---- the state

  zipped_length : (ks : List ℕ) (l : List ℤ) → length ks ≤ length l → length (zipped ks l) ≡ length ks
  unfolding zipped
  zipped_length [] l h = refl
  zipped_length (k ∷ ks) [] h = absurd (omega arith)
  zipped_length (k ∷ ks) (z ∷ l) h = ap suc (zipped_length ks l (omega arith))

  below_top : (ks : List ℕ) (store : List ℤ) → length ks ≤ length store
      → take (length ks) (dressed ks store) ≡ zipped ks store
  unfolding dressed
  below_top ks store h =
      ap (λ n. take n (zipped ks store ++ map tagged.loose (drop (length ks) store)))
      (sym (zipped_length ks store h))
      ∙ take-append-le (length (zipped ks store)) (zipped ks store) _ (omega arith)
      ∙ take-length (zipped ks store)

  dressed_length : (ks : List ℕ) (store : List ℤ) → length ks ≤ length store → length (dressed ks store) ≡ length store
  unfolding dressed
  dressed_length ks store h =
      omega (
        arith,
        length-append (zipped ks store) (map tagged.loose (drop (length ks) store)),
        zipped_length ks store h,
        length-map (drop (length ks) store) tagged.loose,
        length-drop (length ks) store,
      )

  from_frames : (s : Registers) (store output : List ℤ) (q : ℕ) (qs : List ℕ) → length store ≤ 65536
      → s.top ≤ length store → s.base ≡ room_of g qs → s.top ≡ room_of g (q ∷ qs) → Inside g q s.row
      → Frames (q ∷ qs) store
      → Sound g (record { at = s; cells = dressed (kinds_below g (q ∷ qs)) store; output = output })
  from_frames s store output q qs few long base top in_Body made =
      go made.frames made.named made.stack made.fits
    where
      kinds : List ℕ
      kinds = kinds_below g (q ∷ qs)

      go : (fs : List Frame) → procedures_of fs ≡ q ∷ qs → Stack g fs → Matched Fits (zipped kinds store) (wants g fs)
          → Sound g (record { at = s; cells = dressed kinds store; output = output })
      go [] named st fits = let z : ◌≡◌ {A = ℕ} 0 1 = cc in absurd (omega arith)
      go (f ∷ fs) named (a_frame st low called slots) fits =
          let this : f.procedure ≡ q = cc in
          let older : procedures_of fs ≡ qs = cc in
          let below : length kinds ≡ s.top = kinds_below_lem (q ∷ qs) ∙ sym top in
          let there : length kinds ≤ length store = omega arith in
          let same = below_top kinds store there in
          record {
            newest = f;
            others = fs;
            stack = a_frame st low called slots;
            holding = rw (← below, same) fits;
            inside = rw this in_Body;
            begins = base ∙ sym (room_is g ok st ∙ ap (room_of g) older);
            ends = top ∙ sym (room_is g ok (a_frame st low called slots) ∙ ap (room_of g) named);
            stored = rw (dressed_length kinds store there) long;
            lent = rw (dressed_length kinds store there) few;
          }

  -- a state's frames begin with that of its row's procedure
  frames_first : (s : Registers) (store : List ℤ)
      → (qs : List ℕ) × (frames_of g s store ≡ procedure_at g.procedures s.row ∷ qs)
  unfolding frames_of chain
  frames_first s store = (_, refl)

  sound_from : (s : Registers) (store output : List ℤ) (q : ℕ) (qs : List ℕ) → length store ≤ 65536
      → s.top ≤ length store → ends_at g (q ∷ qs) s.base s.top ≡ true → Inside g q s.row
      → stack_kept g (q ∷ qs) store ≡ true
      → Sound g (record { at = s; cells = dressed (kinds_below g (q ∷ qs)) store; output = output })
  unfolding ends_at
  sound_from s store output q qs few long ends in_Body kept =
      let (base, top) = also_true _ _ ends in
      let at_top : s.top ≡ room_of g (q ∷ qs) = eqb-true _ _ top in
      let made = stack_built (q ∷ qs) store (omega arith) kept in
      from_frames s store output q qs few long (eqb-true _ _ base) at_top in_Body made

  -- "What was certain from a fresh start is now certain from every state that question 14 passes": it is sound
  pub yes_sound : (s : Registers) (store output : List ℤ) → sound_of g s store ≡ true
      → Sound g (resumed g s store output)
  unfolding sound_of resumed
  yes_sound s store output e =
      let (few, e₁) = also_true _ _ e in
      let (long, e₂) = also_true _ _ e₁ in
      let (ends, e₃) = also_true _ _ e₂ in
      let (in_Body, kept) = also_true _ _ e₃ in
      let (qs, frames) = frames_first s store in
      rw frames (sound_from s store output _ qs (leb-true _ _ few) (leb-true _ _ long) (rw frames at ends)
      (inside _ _ in_Body) (rw frames at kept))
