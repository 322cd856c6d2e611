-- A call from a sound state: arguments are passed one by one, then the procedure's frame is entered.
use mathlib.Core.Path.{◌≡◌, refl, sym, ◌∙◌, ap}
use mathlib.Core.Bool.{true, false}
use mathlib.Core.List.{List, [], ◌∷◌, ◌++◌, map, append_assoc, append-nil}
use Prim.Native.Nat.{ℕ, zero, suc, ◌+◌, ◌≤◌, ◌<◌}
use native.Mathlib.Omega.{arith}
use borrow.Author.Tests.{eqb-true, eqb-false, leb-true, ltb-false, le-leb}
use lib.Dec.{eqb}
use lib.ListN.{length, take, drop, length-append}
use lib.Seq.{length-take-le, take-add, take_at, take-append_seam, take-append-add, drop_at}
use Rattle.prelude.specs.Parts.{joined, Part}
use Rattle.prelude.proofs.Choice.{also_true, clash}
use Rattle.image.specs.Rows.{Bytes, row_at, rows_of}
use Rattle.shapes.specs.Forms.{kind_in, is_single}
use Rattle.shapes.specs.Sizes.{size_of}
use Rattle.relations.specs.Extends.{extends}
use Rattle.relations.proofs.Extension.{extends_trans}
use Rattle.nodes.specs.Nodes.{is_designator, is_argument}
use Rattle.nodes.proofs.Accepted.{argument_is, argument_kind, argument_within}
use Rattle.typing.proofs.Accepted.{argument_typed}
use Rattle.frames.specs.Variables.{is_parameter, kind_within}
use Rattle.frames.specs.Procedures.{first_variable, claimed_by}
use Rattle.places.specs.Places.{room_by, width_of, room_from, frame_size}
use Rattle.places.proofs.Rooms.{room_more}
use Rattle.statements.specs.Statements.{procedure_at}
use Rattle.statements.proofs.Accepted.{CallRow, call_is}
use Rattle.statements.proofs.Bodies.{start_in}
use Rattle.rules.proofs.Accepted.{ArgumentRuled, call_ruled}
use Rattle.checker.proofs.Accepted.{AcceptedTables}
use Rattle.semantics.specs.declared.Place.{Place}
use Rattle.semantics.specs.Memory.{LINK, ADDRESS, TYPE, Cell, tagged, overwrite}
use Rattle.semantics.specs.Layout.{Program, place_of, kinds_from}
use Rattle.semantics.specs.Finding.{find_of, eval_of}
use Rattle.semantics.specs.Stepping.{State, Next, on_place, on_value, on_part, with_cells, argument_cells, passed}
use Rattle.semantics.specs.Stepping.{entered, called}
use Rattle.semantics.specs.Sound.{Want, Want.any_value, Want.exactly, Fits, Fits.fits_exactly, Matched}
use Rattle.semantics.specs.Sound.{Matched.no_more, Matched.one_more, Frame, values_of, frame_wants}
use Rattle.names.specs.Names.{rows_from}
use Rattle.semantics.specs.Sound.{wants, Inside, Slot, Slot.by_value, Slot.by_reference, Called.is_called}
use Rattle.semantics.specs.Sound.{Stack, Stack.a_frame, Sound}
use Rattle.semantics.proofs.Holding.{matched_length, matched_append, put_above, put_length}
use Rattle.semantics.specs.Demand3.{Unchanged, NextOk, NextOk.ok_goes, NextOk.ok_trapped}
use Rattle.semantics.proofs.Evaluating.{FoundOk, Designates.as_argument, find_ok, eval_ok, part_top}
use Rattle.semantics.proofs.Evaluating.{single_values}
use Rattle.semantics.proofs.Objects.{values_length, slot_width, object_front, slots_length, room_next}
use Rattle.semantics.proofs.Objects.{claimed_there, claimed_place, claimed_within}
use Rattle.semantics.proofs.Blanks.{local_low, slots_from, slots_matched, slots_fit}
use Rattle.semantics.proofs.Kinship.{extends_single, single_extends}
use Rattle.semantics.proofs.Performing.{unchanged, ok_choose, ok_yes, on_place_ok, on_value_ok, part_cells}
use Rattle.semantics.proofs.Performing.{put_fits, typed_low, structured_designator, row_within, procedure_is}
use Rattle.semantics.proofs.Performing.{kind_inside, sound_with}

-- ---- lists

rows_both : (k m n : ℕ) → rows_from k (m + n) ≡ rows_from k m ++ rows_from (k + m) n
unfolding rows_from
rows_both k zero n = let e : k + 0 ≡ k = omega arith in let z : 0 + n ≡ n = omega arith in rw (e, z)
rows_both k (suc m) n =
    let e : k + 1 + m ≡ k + suc m = omega arith in
    let z : suc m + n ≡ suc (m + n) = omega arith in
    rw (z, ← e) (ap (λ l. k ∷ l) (rows_both (k + 1) m n))

module _ {A : Type 0} where
  joined_both : (xs ys : List (List A)) → joined (xs ++ ys) ≡ joined xs ++ joined ys
  unfolding joined
  joined_both [] ys = refl
  joined_both (x ∷ xs) ys = ap (λ l. x ++ l) (joined_both xs ys) ∙ sym (append_assoc x (joined xs) (joined ys))

  -- a part grows by what is written behind it
  part_put : (l xs new : List A) (at : ℕ) → Part l at xs → at + length xs + length new ≤ length l
      → Part (overwrite l (at + length xs) new) at (xs ++ new)
  unfolding overwrite
  part_put l xs new at p h =
      let behind : List A = drop (at + length xs + length new) l in
      let w = p.within in
      let front : take (at + length xs) l ≡ take at l ++ xs =
      take-add at (length xs) l ∙ rw (p.seen, take-append_seam xs p.rest) in
      let size : length (take at l) ≡ at = length-take-le at l w in
      let whole : take (at + length xs) l ++ (new ++ behind) ≡ take at l ++ (xs ++ (new ++ behind)) =
      rw front (append_assoc (take at l) xs (new ++ behind)) in
      record {
        rest = behind;
        seen =
            ap (drop at) whole ∙ drop_at (take at l) (xs ++ (new ++ behind)) at size
            ∙ sym (append_assoc xs new behind);
        within = rw whole (omega (arith, size, length-append (take at l) (xs ++ (new ++ behind))));
      }

  -- n cells from top on, once the links before a part are written
  frame_cells : (l links xs : List A) (top n : ℕ) → top ≤ length l → length (links ++ xs) ≡ n
      → Part l (top + length links) xs → take (top + n) (overwrite l top links) ≡ take top l ++ (links ++ xs)
  unfolding overwrite
  frame_cells l links xs top n h e p =
      let size : length (take top l) ≡ top = length-take-le top l h in
      let behind : links ++ drop (top + length links) l ≡ (links ++ xs) ++ p.rest =
      rw p.seen (sym (append_assoc links xs p.rest)) in
      let from : take (length (take top l) + n) (take top l ++ ((links ++ xs) ++ p.rest))
      ≡ take top l ++ (links ++ xs) =
      take-append-add (take top l) ((links ++ xs) ++ p.rest) n ∙ rw (take_at (links ++ xs) p.rest n e) in
      rw behind (rw size at from)

-- ---- one argument

module _ (g : Program)
    (ok : AcceptedTables g.types g.fields g.variables g.procedures g.nodes g.statements)
    (bytes : Bytes g.nodes) (s : State Cell) (sound : Sound g s) where
  -- the same state with other cells above top
  record Above (cells : List Cell) : Type 0 where
    as_many : length cells ≡ length s.cells
    same_below : take s.at.top cells ≡ take s.at.top s.cells

  abbrev over : List Cell → State Cell
  over cells = record { at = s.at; cells = cells; output = s.output }

  above_unchanged : (cells : List Cell) → Above cells → Unchanged s (over cells)
  above_unchanged cells k = record { registers = refl; below = k.same_below; cells = k.as_many; output = refl }

  -- is sound in the same frames
  abbrev above_sound : (cells : List Cell) → Above cells → Sound g (over cells)
  above_sound cells k =
      sound_with g ok bytes s sound s.at.row s.at.read s.at.written cells s.output sound.inside
      (rw k.same_below sound.holding) k.as_many

  module _ (k a : ℕ) (there : a < rows_of g.variables) (parameter : is_parameter g.variables a ≡ true)
      (argument : is_argument g.nodes k ≡ true)
      (ruled : ArgumentRuled g.types g.fields g.variables g.procedures g.nodes
      sound.newest.procedure k a)
      (cells : List Cell) (above : Above cells) (next : List Cell → Next Cell)
      (more : (new : List Cell) (ws : List Want) → Slot g (sound.newest ∷ sound.others) a ws → Matched Fits new ws
      → NextOk g s (next new))
    where
      within : k < rows_of g.nodes
      within = argument_within g.nodes k argument

      kind : (row_at g.nodes k).kind ≡ 8
      kind = argument_kind g.nodes k argument

      passed_row : ruled.passed < rows_of g.types
      passed_row = typed_low g ok k ruled.passed ruled.passed_type

      found : is_designator g.nodes (row_at g.nodes k).a ≡ true
          → FoundOk g (sound.newest ∷ sound.others) ruled.passed
          (find_of tagged g s.at.base s.at.top cells k)
      found d =
          find_ok g ok bytes (over cells) (above_sound cells above) k ruled.passed within ruled.passed_type
          ruled.own
          (as_argument kind d)

      extended : (place : Place) → place.declared ≡ ruled.passed
          → extends g.types place.dynamic place.declared ≡ true
          → extends g.types place.dynamic (row_at g.variables a).a ≡ true
      extended place d e =
          extends_trans g.types place.dynamic ruled.passed (row_at g.variables a).a (rw d at e)
          ruled.extension

      -- "A VAR argument passes its object's address and dynamic type."
      reference_ok : (row_at g.variables a).kind ≡ 3
          → NextOk g s (on_place (over cells) (find_of tagged g s.at.base s.at.top cells k)
          λ place. next (tagged.mark ADDRESS place.address ∷ tagged.mark TYPE place.dynamic ∷ []))
      unfolding tagged
      reference_ok var =
          on_place_ok g s (above_unchanged cells above) _ (found (ruled.designator var)) λ place d e o.
          more _ (exactly ADDRESS place.address ∷ exactly TYPE place.dynamic ∷ [])
          (by_reference var o (extended place d e))
          (one_more (fits_exactly refl refl) (one_more (fits_exactly refl refl) no_more))

      -- a single cell's value
      single_ok : (row_at g.variables a).kind ≤ 2 → is_single g.types (row_at g.variables a).a ≡ true
          → NextOk g s
          (on_value (over cells) (eval_of tagged g s.at.base s.at.top cells k) λ v. next (tagged.put v ∷ []))
      unfolding values_of
      single_ok plain single =
          let same_type : ruled.passed ≡ (row_at g.variables a).a =
          extends_single g.types g.fields ok.types ruled.passed (row_at g.variables a).a single
          ruled.extension passed_row in
          let values = single_values g ok (row_at g.variables a).a single in
          let slot : Slot g (sound.newest ∷ sound.others) a (values_of g (row_at g.variables a).a) =
          by_value plain in
          on_value_ok g s (above_unchanged cells above) _
          (eval_ok g ok bytes (over cells) (above_sound cells above) k ruled.passed within ruled.passed_type
          ruled.own (rw same_type single))
          λ v e h. more _ (any_value (kind_in g.types (row_at g.variables a).a) ∷ []) (rw values at slot)
          (one_more (put_fits v _ (e ∙ ap (kind_in g.types) same_type) h) no_more)

      -- another object's cells
      holds : is_single g.types (row_at g.variables a).a ≡ false
          → is_designator g.nodes (row_at g.nodes k).a ≡ true
      holds structured =
          let child = (argument_is g.types g.variables g.nodes
          ok.questions.nodes k within kind).holds.node in
          let type = argument_typed g.types g.fields g.variables g.nodes ok.questions.nodes k within
          ruled.passed_type kind in
          structured_designator g ok (row_at g.nodes k).a ruled.passed child type
          (λ single. clash (sym single ∙ rw (single_extends g.types ruled.passed (row_at g.variables a).a single
          ruled.extension) structured))

      copied_ok : (row_at g.variables a).kind ≤ 2 → is_single g.types (row_at g.variables a).a ≡ false
          → NextOk g s (on_place (over cells) (find_of tagged g s.at.base s.at.top cells k)
          λ place. on_part (over cells) place.address
          (size_of g.types g.fields (row_at g.variables a).a) next)
      unfolding on_part
      copied_ok plain structured =
          on_place_ok g s (above_unchanged cells above) _ (found (holds structured)) λ place d e o.
          let r : ℕ = (row_at g.variables a).a in
          let size = values_length g r in
          let part = object_front g ok r sound.stack o (extended place d e) in
          let matched = part_cells g ok bytes (over cells) (above_sound cells above) part in
          let low = rw size at (part_top g ok bytes s sound part) in
          ok_yes g s _ _ (le-leb (place.address + size_of g.types g.fields r) s.at.top low)
          (more _ (values_of g r) (by_value plain) (rw size at matched))

      parameter_kind : ((row_at g.variables a).kind ≡ 3 → ⊥) → (row_at g.variables a).kind ≤ 2
      unfolding kind_within
      parameter_kind other =
          let most : (row_at g.variables a).kind ≤ 3 = leb-true _ _ (also_true _ _ parameter).1 in
          omega arith

      argument_ok : NextOk g s (argument_cells tagged g (over cells) k (row_at g.variables a) next)
      unfolding argument_cells
      argument_ok =
          ok_choose g s (eqb (row_at g.variables a).kind 3) (λ e. reference_ok (eqb-true _ _ e)) λ e.
          let plain = parameter_kind (eqb-false _ _ e) in
          ok_choose g s (is_single g.types (row_at g.variables a).a) (single_ok plain) (copied_ok plain)

  -- ---- all arguments

  module _ (q : ℕ) (exists : q < rows_of g.procedures)
      (fitting : s.at.top + frame_size g.types g.fields g.variables g.procedures q
      ≤ length s.cells) where
    abbrev first : ℕ
    first = first_variable g.variables g.procedures q

    -- the first j variables of the new frame hold what their slots say
    record Passing (j : ℕ) (cells : List Cell) : Type 0 where
      above : Above cells
      arguments : List Cell
      slots : List (List Want)
      placed : Part cells (s.at.top + 3) arguments
      filled : length arguments ≡ room_from g.types g.fields g.variables first j
      fits : Matched Fits arguments (joined slots)
      slotted : Matched (Slot g (sound.newest ∷ sound.others)) (rows_from first j) slots

    passing_none : Passing 0 s.cells
    unfolding room_by joined rows_from frame_size
    passing_none = record {
      above = record { as_many = refl; same_below = refl };
      arguments = [];
      slots = [];
      placed = record { rest = drop (s.at.top + 3) s.cells; seen = refl; within = omega arith };
      filled = refl;
      fits = no_more;
      slotted = no_more;
    }

    module _ (j : ℕ) (claimed : j < claimed_by (row_at g.procedures q)) where
      passing_next : (cells : List Cell) → Passing j cells → (new : List Cell) (ws : List Want)
          → Slot g (sound.newest ∷ sound.others) (first + j) ws → Matched Fits new ws
          → Passing (j + 1) (overwrite cells (s.at.top + place_of g (first + j)) new)
      unfolding joined rows_from
      passing_next cells p new ws slot matched =
          let args : List Cell = p.arguments in
          let width : length new ≡ width_of g.types g.fields g.variables (first + j) =
          matched_length matched ∙ slot_width g slot in
          let at : s.at.top + place_of g (first + j) ≡ s.at.top + 3 + length args =
          omega (arith, claimed_place g ok q exists j claimed, p.filled) in
          let most = claimed_within g ok q exists j claimed in
          let many = p.above.as_many in
          let room : s.at.top + 3 + length args + length new ≤ length cells = omega arith in
          let one : j + 1 ≡ suc j = omega arith in
          rw at (record {
            above = record {
              as_many = put_length cells new (s.at.top + 3 + length args) room ∙ many;
              same_below =
                  put_above cells new (s.at.top + 3 + length args) s.at.top (omega arith) (omega arith)
                  ∙ p.above.same_below;
            };
            arguments = args ++ new;
            slots = p.slots ++ (ws ∷ []);
            placed = part_put cells args new (s.at.top + 3) p.placed room;
            filled =
                rw one (omega (
                  arith,
                  length-append args new,
                  p.filled,
                  room_more (size_of g.types g.fields)
                      g.variables first j,
                ));
            fits = rw (joined_both p.slots (ws ∷ []), append-nil ws) (matched_append p.fits matched);
            slotted = rw (rows_both first j 1) (matched_append p.slotted (one_more slot no_more));
          })

    -- ---- the frame is entered

    module _ (call : (row_at g.statements s.at.row).kind ≡ 1)
        (named : (row_at g.statements s.at.row).a ≡ q) where
      abbrev count : ℕ
      count = (row_at g.procedures q).b

      row_there : s.at.row < rows_of g.statements
      row_there = row_within g ok bytes s sound

      caller : procedure_at g.procedures s.at.row ≡ sound.newest.procedure
      caller = sym (procedure_is g ok bytes s sound)

      -- the row behind a call is in the same body
      behind : Inside g sound.newest.procedure (s.at.row + 1)
      behind = kind_inside g ok bytes s sound 1 call (omega arith) (omega arith) (omega arith)

      module _ (cells : List Cell) (p : Passing count cells) where
        -- "then locals zero"
        locals_low : (j : ℕ) → first + count ≤ j → j < first + count + (row_at g.procedures q).c
            → (row_at g.variables j).kind ≤ 2
        locals_low j low high = local_low g.variables j ((ok.procedures.row q exists).locals.each j low high)

        abbrev own_slots : List (List Want)
        own_slots = slots_from g (first + count) (row_at g.procedures q).c

        abbrev locals : List Cell
        locals = map tagged.blank (kinds_from g (first + count) (row_at g.procedures q).c)

        abbrev links : List Cell
        links =
            tagged.mark LINK (procedure_at g.procedures s.at.row) ∷ tagged.mark LINK (s.at.row + 1)
            ∷ tagged.mark LINK s.at.base ∷ []

        abbrev frame : Frame
        frame = record {
          procedure = q;
          caller = procedure_at g.procedures s.at.row;
          back = s.at.row + 1;
          callers_base = s.at.base;
          slots = p.slots ++ own_slots;
        }

        frame_slots : Matched (Slot g (sound.newest ∷ sound.others))
            (rows_from first (claimed_by (row_at g.procedures q))) frame.slots
        unfolding claimed_by
        frame_slots =
            rw (rows_both first count (row_at g.procedures q).c)
            (matched_append p.slotted (slots_matched g (sound.newest ∷ sound.others)
            (row_at g.procedures q).c (first + count) locals_low))

        frame_stack : Stack g (frame ∷ sound.newest ∷ sound.others)
        frame_stack =
            a_frame sound.stack exists
            (is_called s.at.row call named sound.inside behind caller refl sound.begins) frame_slots

        frame_fits : Matched Fits (links ++ (p.arguments ++ locals)) (frame_wants g frame)
        unfolding frame_wants tagged
        frame_fits =
            let slots : Matched Fits (p.arguments ++ locals) (joined (p.slots ++ own_slots)) =
            rw (joined_both p.slots own_slots) (matched_append p.fits
            (slots_fit g (row_at g.procedures q).c (first + count) locals_low)) in
            one_more (fits_exactly refl refl) (one_more (fits_exactly refl refl)
            (one_more (fits_exactly refl refl) slots))

        frame_length : length (links ++ (p.arguments ++ locals))
            ≡ frame_size g.types g.fields g.variables g.procedures q
        frame_length = matched_length frame_fits ∙ slots_length g ok frame_stack

        abbrev zeroed : List Cell
        zeroed = overwrite cells (s.at.top + (3 + room_from g.types g.fields g.variables first count)) locals

        zeroed_room : s.at.top + 3 + length p.arguments + length locals ≤ length cells
        zeroed_room =
            let size = frame_length in
            let many = p.above.as_many in
            omega (arith, length-append p.arguments locals)

        zeroed_at : s.at.top + (3 + room_from g.types g.fields g.variables first count)
            ≡ s.at.top + 3 + length p.arguments
        zeroed_at = omega (arith, p.filled)

        zeroed_part : Part zeroed (s.at.top + 3) (p.arguments ++ locals)
        zeroed_part = rw zeroed_at (part_put cells p.arguments locals (s.at.top + 3) p.placed zeroed_room)

        zeroed_length : length zeroed ≡ length s.cells
        zeroed_length =
            rw zeroed_at (put_length cells locals (s.at.top + 3 + length p.arguments) zeroed_room)
            ∙ p.above.as_many

        zeroed_below : take s.at.top zeroed ≡ take s.at.top s.cells
        zeroed_below =
            let room = zeroed_room in
            rw zeroed_at (put_above cells locals (s.at.top + 3 + length p.arguments) s.at.top (omega arith)
            (omega arith))
            ∙ p.above.same_below

        final_length : length (overwrite zeroed s.at.top links) ≡ length s.cells
        final_length =
            let size = frame_length in
            let many = zeroed_length in
            put_length zeroed links s.at.top (omega (arith, length-append links (p.arguments ++ locals))) ∙ many

        final_holds : Matched Fits
            (take (s.at.top + frame_size g.types g.fields g.variables g.procedures q)
            (overwrite zeroed s.at.top links))
            (wants g (frame ∷ sound.newest ∷ sound.others))
        unfolding wants
        final_holds =
            let many = zeroed_length in
            let stored = sound.stored in
            rw (
              frame_cells zeroed links (p.arguments ++ locals) s.at.top
                  (frame_size g.types g.fields g.variables g.procedures q)
                  (omega arith) frame_length zeroed_part,
              zeroed_below,
            )
            (matched_append sound.holding frame_fits)

        entered_sound : Sound g (record {
          at = record {
            row = (row_at g.procedures q).a;
            base = s.at.top;
            top = s.at.top + frame_size g.types g.fields g.variables g.procedures q;
            read = s.at.read;
            written = s.at.written;
          };
          cells = overwrite zeroed s.at.top links;
          output = s.output;
        })
        entered_sound =
            let start = start_in g.variables g.procedures g.statements ok.procedures q exists in
            let end = sound.ends in
            let many = final_length in
            let lent = sound.lent in
            let next = room_next g ok frame_stack in
            record {
              newest = frame;
              others = sound.newest ∷ sound.others;
              stack = frame_stack;
              holding = final_holds;
              inside = record { procedure = start.procedure; start = start.start; end = start.end };
              begins = end;
              ends = omega arith;
              stored = omega arith;
              lent = omega arith;
            }

        entered_ok : NextOk g s (entered tagged g q (row_at g.procedures q) (over cells))
        unfolding entered
        entered_ok = ok_goes entered_sound final_length refl

      -- ---- the call

      call_row : CallRow g.nodes g.procedures (row_at g.statements s.at.row)
      call_row =
          call_is g.nodes g.procedures g.statements ok.questions.statements s.at.row row_there call

      argument_there : (j : ℕ) → j < count → is_argument g.nodes ((row_at g.statements s.at.row).b + j) ≡ true
      argument_there j less =
          let counted : (row_at g.procedures (row_at g.statements s.at.row).a).b ≡ count =
          ap (λ x. (row_at g.procedures x).b) named in
          call_row.arguments.each ((row_at g.statements s.at.row).b + j) (omega arith) (omega arith)

      argument_ruled : (j : ℕ) → j < count
          → ArgumentRuled g.types g.fields g.variables g.procedures g.nodes sound.newest.procedure
          ((row_at g.statements s.at.row).b + j) (first + j)
      argument_ruled j less =
          let counted : (row_at g.procedures (row_at g.statements s.at.row).a).b ≡ count =
          ap (λ x. (row_at g.procedures x).b) named in
          let ruled = call_ruled g.types g.fields g.variables g.procedures g.nodes g.statements
          ok.questions.rules
          s.at.row row_there call in
          rw (caller, named) at (ruled.argument j (omega arith))

      -- n more arguments, where j are passed
      passed_ok : (n j k a : ℕ) → j + n ≡ count → k ≡ (row_at g.statements s.at.row).b + j → a ≡ first + j
          → (cells : List Cell) → Passing j cells
          → NextOk g s (passed tagged g k a n (over cells) (entered tagged g q (row_at g.procedures q)))
      unfolding passed with_cells claimed_by
      passed_ok zero j k a e from to cells p = let all : j ≡ count = omega arith in entered_ok cells (rw all at p)
      passed_ok (suc n) j k a e from to cells p =
          rw (from, to)
          (argument_ok ((row_at g.statements s.at.row).b + j) (first + j) (claimed_there g ok q exists j (omega arith))
          ((ok.procedures.row q exists).parameters.each (first + j) (omega arith) (omega arith))
          (argument_there j (omega arith)) (argument_ruled j (omega arith)) cells p.above _
          λ new ws slot matched.
          passed_ok n (j + 1) ((row_at g.statements s.at.row).b + j + 1) (first + j + 1) (omega arith)
          (omega arith) (omega arith) _
          (passing_next j (omega arith) cells p new ws slot matched))

  -- the procedure of a call
  callee_there : (row_at g.statements s.at.row).kind ≡ 1
      → (row_at g.statements s.at.row).a < rows_of g.procedures
  callee_there call =
      (call_is g.nodes g.procedures g.statements ok.questions.statements s.at.row
      (row_within g ok bytes s sound) call).procedure

  -- a call goes on to a sound state or ends in a trap
  pub called_ok : (row_at g.statements s.at.row).kind ≡ 1
      → NextOk g s (called tagged g (row_at g.statements s.at.row) s)
  unfolding called
  called_ok call =
      let q : ℕ = (row_at g.statements s.at.row).a in
      let there = callee_there call in
      ok_choose g s _ (λ e. ok_trapped (unchanged g s)) λ e.
      let fitting : s.at.top + frame_size g.types g.fields g.variables g.procedures q
      ≤ length s.cells = ltb-false _ _ e in
      passed_ok q there fitting call refl (row_at g.procedures q).b 0 (row_at g.statements s.at.row).b
      (first_variable g.variables g.procedures q) (omega arith) (omega arith) (omega arith) s.cells
      (passing_none q there fitting)
