-- Laws of a new frame: its size, its cells, and the step that enters it.
use mathlib.Core.Path.{◌≡◌, sym, ◌∙◌, ap}
use mathlib.Core.List.{List, [], ◌∷◌, ◌++◌, map}
use Prim.Native.Nat.{ℕ, ◌+◌, ◌-◌, ◌≤◌, ◌<◌}
use native.Mathlib.Omega.{arith}
use lib.IntN.{ℤ, pos}
use lib.ListN.{length, set, take, drop, replicate, length-append, length-drop, length-replicate}
use lib.Seq.{length-take-le, take_at, drop_at}
use Rattle.image.specs.declared.Row.{Row}
use Rattle.image.specs.Rows.{row_at, rows_of}
use Rattle.frames.specs.Procedures.{claimed_by, first_variable}
use Rattle.statements.specs.Statements.{procedure_at}
use Rattle.places.specs.Places.{room_from, frame_size}
use Rattle.places.proofs.Owning.{frame_parts}
use Rattle.semantics.specs.declared.Registers.{Registers}
use Rattle.semantics.specs.Memory.{bare, overwrite}
use Rattle.semantics.specs.Layout.{Program, place_of, kinds_from}
use Rattle.semantics.specs.Running.{program_of}
use Rattle.semantics.specs.Stepping.{Next.goes, entered}
use Rattle.semantics.proofs.Agreeing.{blank_zeros}
use Rattle.semantics.proofs.Objects.{kinds_room}
use Rattle.cells.proofs.Overwriting.{overwrite_one, overwrite_length, overwrite_above, lent_is, lent_back, set_behind}
use Rattle.access.specs.Ready.{Planned}
use Rattle.access.proofs.Bounds.{variables_few, claimed_there, place_in_lem}
use Rattle.calling.specs.declared.Step.TheVariants as Steps
use Rattle.calling.specs.Showing.{state_of, Shows, Shows.shows_goes}

-- ---- how many cells

module _ (g : Program) (q : ℕ) where
  abbrev first : ℕ
  first = first_variable g.variables g.procedures q

  abbrev parameters : ℕ
  parameters = (row_at g.procedures q).b

  abbrev locals : ℕ
  locals = (row_at g.procedures q).c

  -- where the locals begin
  abbrev past : ℕ
  past = 3 + room_from g.types g.fields g.variables first parameters

  abbrev size : ℕ
  size = frame_size g.types g.fields g.variables g.procedures q

  -- a frame ends with the locals
  frame_both : size ≡ past + room_from g.types g.fields g.variables (first + parameters) locals
  frame_both = frame_parts g.types g.fields g.variables g.procedures q

  -- a procedure with no locals
  frame_past : locals ≡ 0 → size ≡ past
  unfolding frame_size claimed_by
  frame_past none = let all : parameters + locals ≡ parameters = omega arith in rw all

-- a procedure's row and first variable as the code has them
module _ {image plan : List ℕ} (p : Planned image plan) (q : ℕ) (exists : q < rows_of (program_of image).procedures)
    (row : Row) (this : row ≡ row_at (program_of image).procedures q) where
  -- no locals: the frame ends behind the parameters
  pub past_end : row.c ≡ 0 → size (program_of image) q ≡ past (program_of image) q
  past_end none = frame_past (program_of image) q (rw this at none)

  module _ (some : row.c ≡ 0 → ⊥) (at : ℕ) (begins : at ≡ first (program_of image) q) where
    -- the first local is there
    pub local_there : at + row.b < rows_of (program_of image).variables
    local_there = rw (begins, this) (let more = rw this at some in omega (arith, claimed_there p q exists))

    -- its row is a 32-bit number
    pub local_low : at + row.b < 4294967296
    local_low = omega (arith, local_there, variables_few p)

    -- it begins behind the parameters
    pub local_place : place_of (program_of image) (at + row.b) ≡ past (program_of image) q
    local_place =
        let more = rw this at some in
        rw (begins, this) (place_in_lem p q (parameters (program_of image) q) exists (omega arith))

-- so are the blanks of a procedure's locals
locals_zero : (g : Program) (q : ℕ)
    → map bare.blank (kinds_from g (first g q + parameters g q) (locals g q))
    ≡ replicate (size g q - past g q) (pos 0)
locals_zero g q =
    let many : length (kinds_from g (first g q + parameters g q) (locals g q)) ≡ size g q - past g q =
    omega (arith, kinds_room g (locals g q) (first g q + parameters g q), frame_both g q) in
    rw (blank_zeros (kinds_from g (first g q + parameters g q) (locals g q)), many)

-- ---- the cells

-- overwritten twice in the part from top on, the second time at its begin
above_twice : (cells xs ys : List ℤ) (top past : ℕ) → top ≤ length cells
    → take top cells ++ overwrite (overwrite (drop top cells) past xs) 0 ys
    ≡ overwrite (overwrite cells (top + past) xs) top ys
above_twice cells xs ys top past within =
    let part : List ℤ = overwrite (drop top cells) past xs in
    let once : take top cells ++ part ≡ overwrite cells (top + past) xs = overwrite_above cells xs top past within in
    let front : length (take top cells) ≡ top = length-take-le top cells within in
    let none : top + 0 ≡ top = omega arith in
    let long : top ≤ length (take top cells ++ part) = omega (arith, length-append (take top cells) part) in
    let twice = overwrite_above (take top cells ++ part) ys top 0 long in
    rw (← once) (rw (take_at (take top cells) part top front, drop_at (take top cells) part top front, none) at twice)

-- three cells written one after the other
pub three_links : (cells : List ℤ) (x y z : ℤ) → 3 ≤ length cells
    → set (set (set cells 0 x) 1 y) 2 z ≡ overwrite cells 0 (x ∷ y ∷ z ∷ [])
three_links cells x y z h =
    rw (overwrite_one cells 0 x (omega arith), set_behind cells (x ∷ []) 0 y (omega arith))
    (set_behind cells (x ∷ y ∷ []) 0 z (omega arith))

-- ---- the step

module _ (g : Program) (q : ℕ) (s : Registers) (cells : List ℤ)
    (room : s.top + size g q ≤ length cells) (few : length cells ≤ 65536) where
  abbrev links : List ℤ
  links = pos (procedure_at g.procedures s.row) ∷ pos (s.row + 1) ∷ pos s.base ∷ []

  abbrev zeros : List ℤ
  zeros = replicate (size g q - past g q) (pos 0)

  abbrev framed : List ℤ
  framed = overwrite (overwrite cells (s.top + past g q) zeros) s.top links

  -- the part from top on has room for it
  pub frame_within :
      (3 ≤ past g q) × (past g q ≤ size g q) × (size g q ≤ length (take (length cells - s.top) (drop s.top cells)))
  frame_within =
      let both = frame_both g q in
      (omega arith, omega arith, rw (lent_is cells s.top) (omega (arith, length-drop s.top cells)))

  -- no cell is added
  framed_length : length framed ≡ length cells
  framed_length =
      let both = frame_both g q in
      let many = length-replicate (size g q - past g q) (pos 0) in
      let once = overwrite_length cells zeros (s.top + past g q) (omega arith) in
      overwrite_length (overwrite cells (s.top + past g q) zeros) links s.top (omega arith) ∙ once

  -- the registers, from statement row r on
  abbrev begun : ℕ → Registers
  begun r = record { row = r; base = s.top; top = s.top + size g q; read = s.read; written = s.written }

  -- the machine's step
  entered_is : (output : List ℤ) → entered bare g q (row_at g.procedures q) (state_of s cells output)
      ≡ goes (state_of (begun (row_at g.procedures q).a) framed output)
  unfolding entered bare
  entered_is output = rw (locals_zero g q)

  -- the frame written where the new one begins
  pub shows_entered : (part : List ℤ)
      → part ≡ overwrite (overwrite (take (length cells - s.top) (drop s.top cells)) (past g q) zeros) 0 links
      → (start : ℕ) → start ≡ (row_at g.procedures q).a → start ≤ 65536 → (output : List ℤ)
      → Shows (state_of s cells output) (entered bare g q (row_at g.procedures q) (state_of s cells output))
      (Steps.Goes (begun start))
      (take s.top cells ++ (part ++ drop (length cells - s.top) (drop s.top cells))) output
  shows_entered part is start begins low output =
      let within : s.top ≤ length cells = omega arith in
      let whole : take s.top cells ++ (part ++ drop (length cells - s.top) (drop s.top cells)) ≡ framed =
      rw (lent_back cells part s.top, is, lent_is cells s.top)
      (above_twice cells zeros links s.top (past g q) within) in
      let many = framed_length in
      rw (whole, entered_is output)
      (shows_goes (ap (λ (r : ℕ). state_of (begun r) framed output) (sym begins)) (record {
        row = low;
        base = omega arith;
        top = omega arith;
      }))
