-- A call in a store, and in one that is longer, where the new frame fits into the shorter one.
use mathlib.Core.Path.{◌≡◌, refl, sym, ◌∙◌}
use mathlib.Core.Bool.{true}
use mathlib.Core.List.{List, [], ◌∷◌, ◌++◌, map}
use Prim.Native.Nat.{ℕ, zero, suc, ◌+◌, ◌≤◌, ◌<◌}
use native.Mathlib.Omega.{arith}
use native.Mathlib.Decide.{dec_lt}
use borrow.Author.Tests.{ltb-false, eqb-true, eqb-false, lt-ltb, le-ltb}
use lib.Dec.{ltb}
use lib.ListN.{length, length-append, length-map}
use Rattle.image.specs.Rows.{row_at, rows_of}
use Rattle.image.specs.declared.Row.{Row}
use Rattle.image.proofs.Bytes.{row_missing}
use Rattle.shapes.specs.Forms.{is_single}
use Rattle.shapes.specs.Sizes.{size_of}
use Rattle.shapes.proofs.Singles.{single_size}
use Rattle.frames.specs.Procedures.{first_variable, claimed_by}
use Rattle.statements.specs.Statements.{procedure_at}
use Rattle.places.specs.Places.{width_of, room_from, frame_size}
use Rattle.places.proofs.Rooms.{width_var, width_other}
use Rattle.places.proofs.Owning.{frame_parts}
use Rattle.checker.proofs.Accepted.{AcceptedTables}
use Rattle.semantics.specs.Memory.{LINK, Memory, overwrite}
use Rattle.semantics.specs.Layout.{Program, place_of, kinds_from}
use Rattle.semantics.specs.Stepping.{State, Next, with_cells, argument_cells, passed, entered, called}
use Rattle.semantics.proofs.Holding.{put_length}
use Rattle.semantics.proofs.Objects.{kinds_room, claimed_there, claimed_within}
use Rattle.semantics.proofs.Longer.{longer, Longer, Longer.longer_goes, Longer.longer_trap, overwrite_longer}
use Rattle.semantics.proofs.Longer.{choose_longer, on_find, on_eval, on_part_lem}

module _ {X : Type 0} (m : Memory X) (g : Program)
    (ok : AcceptedTables g.types g.fields g.variables g.procedures g.nodes g.statements)
    (rest : List X) (n : ℕ) where
  -- cells written into the new frame
  framed_longer : (s : State X) (a : ℕ) (new : List X) → a + length new ≤ length s.cells
      → with_cells (longer rest s) (overwrite (s.cells ++ rest) a new)
      ≡ longer rest (with_cells s (overwrite s.cells a new))
  unfolding longer with_cells
  framed_longer s a new low = rw (overwrite_longer s.cells rest a new low)

  -- an argument has no more cells than its parameter
  argument_longer : (s : State X) → length s.cells ≡ n → s.at.top ≤ n → (k a : ℕ) → a < rows_of g.variables
      → (next next' : List X → Next X)
      → ((new : List X) → length new ≤ width_of g.types g.fields g.variables a
      → Longer rest n (next new) (next' new))
      → Longer rest n (argument_cells m g s k (row_at g.variables a) next)
      (argument_cells m g (longer rest s) k (row_at g.variables a) next')
  unfolding argument_cells longer
  argument_longer s size high k a there next next' h =
      choose_longer rest n _
      (λ e. on_find m g rest n s size high k _ _
      (λ place. h _ (omega (arith, width_var (size_of g.types g.fields) g.variables a (eqb-true _ _ e)))))
      (λ e. let width = width_other (size_of g.types g.fields) g.variables a (eqb-false _ _ e) in
      choose_longer rest n _
      (λ f. on_eval m g rest n s size high k _ _ (λ v. h _ (omega (arith, width, one_cell f))))
      (λ f. on_find m g rest n s size high k _ _
      (λ place. on_part_lem m g rest n s size high _ _ _ _ (λ new short. h new (omega (arith, width))))))
    where
      one_cell : is_single g.types (row_at g.variables a).a ≡ true
          → 1 ≤ size_of g.types g.fields (row_at g.variables a).a
      one_cell single =
          omega (arith, single_size g.types g.fields ok.types (row_at g.variables a).a single)

  -- c arguments, to parameters whose cells lie in the shorter store
  passed_longer : (c k a : ℕ) (s : State X) → length s.cells ≡ n → s.at.top ≤ n
      → ((j : ℕ) → j < c → (a + j < rows_of g.variables) × (s.at.top
      + (place_of g (a + j) + width_of g.types g.fields g.variables (a + j)) ≤ n))
      → (next : State X → Next X)
      → ((u : State X) → u.at ≡ s.at → length u.cells ≡ n → Longer rest n (next u) (next (longer rest u)))
      → Longer rest n (passed m g k a c s next) (passed m g k a c (longer rest s) next)
  unfolding passed longer with_cells
  passed_longer zero k a s size high room next h = h s refl size
  passed_longer (suc c) k a s size high room next h =
      let first : a + 0 ≡ a = omega arith in
      let (there, fits) = rw first at (room 0 (omega arith)) in
      argument_longer s size high k a there _ _ (λ new short.
      let low : s.at.top + place_of g a + length new ≤ length s.cells = omega arith in
      let u : State X = with_cells s (overwrite s.cells (s.at.top + place_of g a) new) in
      rw (framed_longer s (s.at.top + place_of g a) new low)
      (passed_longer c (k + 1) (a + 1) u (put_length s.cells new (s.at.top + place_of g a) low ∙ size) high
      (λ j l. let row : a + 1 + j ≡ a + suc j = omega arith in rw row (room (suc j) (omega arith))) next h))

  -- the frame of procedure q, in the shorter store
  entered_longer : (q : ℕ) (s : State X) → length s.cells ≡ n
      → s.at.top + frame_size g.types g.fields g.variables g.procedures q ≤ n
      → Longer rest n (entered m g q (row_at g.procedures q) s)
      (entered m g q (row_at g.procedures q) (longer rest s))
  unfolding entered longer
  entered_longer q s size room =
      let procedure : Row = row_at g.procedures q in
      let first : ℕ = first_variable g.variables g.procedures q in
      let past : ℕ = s.at.top + (3 + room_from g.types g.fields g.variables first procedure.b) in
      let locals : List X = map m.blank (kinds_from g (first + procedure.b) procedure.c) in
      let links : List X = m.mark LINK (procedure_at g.procedures s.at.row) ∷ m.mark LINK (s.at.row + 1)
      ∷ m.mark LINK s.at.base ∷ [] in
      let parts = frame_parts g.types g.fields g.variables g.procedures q in
      let count = length-map (kinds_from g (first + procedure.b) procedure.c) m.blank in
      let fits : past + length locals ≤ length s.cells =
      omega (arith, count, kinds_room g procedure.c (first + procedure.b), parts) in
      let zeroed = put_length s.cells locals past fits in
      let low : s.at.top + length links ≤ length (overwrite s.cells past locals) = omega (arith, zeroed, parts) in
      rw (
        overwrite_longer s.cells rest past locals fits,
        overwrite_longer (overwrite s.cells past locals) rest s.at.top links low,
      )
      (longer_goes room (put_length (overwrite s.cells past locals) links s.at.top low ∙ zeroed ∙ size) refl)

  -- the store check: passed in the longer store, the frame fits into the shorter one
  pub called_longer : (row : Row) (s : State X) → length s.cells ≡ n → s.at.top ≤ n
      → (s.at.top + frame_size g.types g.fields g.variables g.procedures row.a ≤ length (s.cells ++ rest)
      → s.at.top + frame_size g.types g.fields g.variables g.procedures row.a ≤ n)
      → Longer rest n (called m g row s) (called m g row (longer rest s))
  unfolding called longer
  called_longer row s size high asked =
      rw (same_check (dec_lt (length (s.cells ++ rest)) top))
      (choose_longer rest n _ (λ e. longer_trap size refl)
      (λ e. let room = asked (ltb-false _ _ e) in
      passed_longer _ _ _ s size high (λ j less. place_room room j less (dec_lt q (rows_of g.procedures))) _
      (λ u at many. entered_longer q u many (rw at room))))
    where
      q : ℕ
      q = row.a

      top : ℕ
      top = s.at.top + frame_size g.types g.fields g.variables g.procedures q

      first : ℕ
      first = first_variable g.variables g.procedures q

      same_check : Dec (length (s.cells ++ rest) < top) → ltb (length s.cells) top ≡ ltb (length (s.cells ++ rest)) top
      same_check (yes past) =
          lt-ltb (length s.cells) top (omega (arith, length-append s.cells rest)) ∙ sym (lt-ltb _ top past)
      same_check (no fits) =
          le-ltb (length s.cells) top (omega (arith, asked (omega arith)))
          ∙ sym (le-ltb (length (s.cells ++ rest)) top (omega arith))

      place_room : top ≤ n → (j : ℕ) → j < (row_at g.procedures q).b → Dec (q < rows_of g.procedures)
          → (first + j < rows_of g.variables) × (s.at.top
          + (place_of g (first + j) + width_of g.types g.fields g.variables (first + j)) ≤ n)
      place_room room j less (yes exists) =
          let claimed : j < claimed_by (row_at g.procedures q) = unfold claimed_by in (omega arith) in
          let within = claimed_within g ok q exists j claimed in
          (claimed_there g ok q exists j claimed, omega arith)
      place_room room j less (no missing) =
          let none = rw (row_missing g.procedures q (omega arith)) at less in absurd (omega arith)
