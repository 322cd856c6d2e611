-- The fresh state is sound.
use mathlib.Core.Path.{◌≡◌, refl, sym, ◌∙◌, ap}
use mathlib.Core.List.{List, [], ◌∷◌, ◌++◌, map, append_assoc}
use Prim.Native.Nat.{ℕ, ◌+◌, ◌≤◌, ◌<◌}
use native.Mathlib.Omega.{arith}
use lib.IntN.{ℤ}
use lib.ListN.{length, take, drop, replicate, length-append, length-drop, length-map}
use lib.Seq.{take-append_seam}
use Rattle.image.specs.Rows.{row_at, rows_of}
use Rattle.frames.specs.Variables.{globals_of}
use Rattle.frames.specs.Procedures.{claimed_by, first_variable}
use Rattle.places.specs.Places.{frame_size}
use Rattle.statements.proofs.Bodies.{start_in}
use Rattle.checker.proofs.Accepted.{AcceptedTables}
use Rattle.semantics.specs.Memory.{LINK, Cell, tagged}
use Rattle.semantics.specs.Layout.{Program, kinds_from}
use Rattle.semantics.specs.Stepping.{State}
use Rattle.semantics.specs.Running.{global_room, first_top, fresh_cells, fresh}
use Rattle.semantics.specs.Sound.{Want, Fits, Fits.fits_exactly, Matched, Matched.one_more, Frame, frame_wants}
use Rattle.semantics.specs.Sound.{wants, room, Inside, Called.is_first, Called.is_called, Stack, Stack.no_frame}
use Rattle.semantics.specs.Sound.{Stack.a_frame, Sound}
use Rattle.semantics.proofs.Holding.{matched_length}
use Rattle.semantics.proofs.Objects.{global_kind, room_next, room_globals}
use Rattle.semantics.proofs.Blanks.{blanks_fit, local_low, slots_from, kinds_scalar, slots_matched, slots_fit}

link_fits : Fits (tagged.mark LINK 0) (Want.exactly LINK 0)
unfolding tagged
link_fits = fits_exactly refl refl

-- ---- procedure 0's frame at G

module _ (g : Program)
    (ok : AcceptedTables g.types g.fields g.variables g.procedures g.nodes g.statements) where
  abbrev first : ℕ
  first = first_variable g.variables g.procedures 0

  abbrev claimed : ℕ
  claimed = claimed_by (row_at g.procedures 0)

  abbrev frame : Frame
  frame = record { procedure = 0; caller = 0; back = 0; callers_base = 0; slots = slots_from g first claimed }

  some : 0 < rows_of g.procedures
  some = let h = ok.counts.some_procedure in omega arith

  -- "no parameters": its variables are locals
  own_low : (j : ℕ) → first ≤ j → j < first + claimed → (row_at g.variables j).kind ≤ 2
  unfolding claimed_by
  own_low j low high =
      let row = ok.procedures.row 0 some in
      let (start, none) = row.main refl in
      local_low g.variables j (row.locals.each j (omega arith) (omega arith))

  global_low : (j : ℕ) → 0 ≤ j → j < 0 + globals_of g.variables → (row_at g.variables j).kind ≤ 2
  global_low j low high = let e = global_kind g.variables j (omega arith) in omega arith

  first_stack : Stack g (frame ∷ [])
  first_stack = a_frame no_frame some (is_first refl refl refl refl) (slots_matched g [] claimed first own_low)

  first_inside : Inside g 0 0
  first_inside =
      let body = start_in g.variables g.procedures g.statements ok.procedures 0 some in
      let (start, none) = (ok.procedures.row 0 some).main refl in
      let low = body.start in
      let end = body.end in
      record { procedure = some; start = omega arith; end = omega arith }

  -- the cells below top
  abbrev front : List Cell
  front =
      map tagged.blank (kinds_from g 0 (globals_of g.variables))
      ++ (replicate 3 (tagged.mark LINK 0) ++ map tagged.blank (kinds_from g first claimed))

  front_fits : Matched Fits front (wants g (frame ∷ []))
  unfolding wants frame_wants
  front_fits =
      blanks_fit (kinds_scalar g (globals_of g.variables) 0 global_low)
      (one_more link_fits (one_more link_fits (one_more link_fits (slots_fit g claimed first own_low))))

  top_room : first_top g ≡ room g (frame ∷ [])
  unfolding first_top global_room
  top_room = omega (arith, room_next g ok first_stack, room_globals g ok)

  front_length : length front ≡ first_top g
  front_length = matched_length front_fits ∙ sym top_room

  module _ (store : List ℤ) where
    fresh_parts : fresh_cells tagged g store ≡ front ++ map tagged.loose (drop (first_top g) store)
    unfolding fresh_cells
    fresh_parts = simp append_assoc

    fresh_front : take (first_top g) (fresh_cells tagged g store) ≡ front
    fresh_front =
        rw (fresh_parts, ← front_length) (take-append_seam front (map tagged.loose (drop (length front) store)))

    -- the fresh cells are as many as the lent ones
    pub fresh_length : first_top g ≤ length store → length (fresh_cells tagged g store) ≡ length store
    fresh_length h =
        rw fresh_parts
        (omega (
          arith,
          length-append front (map tagged.loose (drop (first_top g) store)),
          length-map (drop (first_top g) store) tagged.loose,
          length-drop (first_top g) store,
          front_length,
        ))

  -- "Fresh: globals and procedure 0's frame zero, base G, top G + F0, row 0, counts 0."
  pub fresh_sound : (store output : List ℤ) → length store ≤ 65536 → first_top g ≤ length store
      → Sound g (fresh tagged g store output)
  unfolding fresh global_room
  fresh_sound store output most least = record {
    newest = frame;
    others = [];
    stack = first_stack;
    holding = rw (fresh_front store) front_fits;
    inside = first_inside;
    begins = sym (room_globals g ok);
    ends = top_room;
    stored = rw (fresh_length store least) least;
    lent = rw (fresh_length store least) most;
  }

  -- a sound state's newest frame ends no lower than procedure 0's
  stack_least : {f : Frame} {fs : List Frame} → Stack g (f ∷ fs) → first_top g ≤ room g (f ∷ fs)
  unfolding first_top global_room
  stack_least (a_frame st low (is_first e a b c) slots) =
      let next = room_next g ok (a_frame st low (is_first e a b c) slots) in
      let same = ap (frame_size g.types g.fields g.variables g.procedures) e in
      omega (arith, next, same, room_globals g ok)
  stack_least (a_frame st low (is_called r call named here behind caller back base) slots) =
      let next = room_next g ok (a_frame st low (is_called r call named here behind caller back base) slots) in
      omega (arith, next, stack_least st)

  pub sound_least : {s : State Cell} → Sound g s → first_top g ≤ s.at.top
  sound_least sound = omega (arith, sound.ends, stack_least sound.stack)
