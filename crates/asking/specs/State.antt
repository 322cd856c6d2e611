-- Question 14's "the state is not sound (each cell taken as the kind that its place in a frame gives)".
use Rattle.std.specs.Prelude.{ℕ, zero, suc, ◌+◌, ◌-◌, Bool, true, false, List, [], ◌∷◌, ◌++◌, map, ltb, leb, eqb, ℤ, pos, negsuc, length, get_or, drop}
use Rattle.std.specs.Prelude.{Ok, Err}
use Rattle.prelude.specs.Choice.{choose, ◌also◌}
use Rattle.image.specs.Rows.{row_at, rows_of}
use Rattle.shapes.specs.Sizes.{layout_of}
use Rattle.relations.specs.Extends.{extends}
use Rattle.frames.specs.Variables.{globals_of}
use Rattle.frames.specs.Procedures.{first_variable, claimed_by, body_end}
use Rattle.places.specs.Places.{width_of}
use Rattle.statements.specs.Statements.{procedure_at}
use Rattle.values.specs.Values.{cell_of, Answer}
use Rattle.semantics.specs.declared.Registers.{Registers}
use Rattle.semantics.specs.Memory.{LINK, Cell, tagged}
use Rattle.semantics.specs.Layout.{Program, kinds_from}
use Rattle.asking.specs.Asking.{room_of, object_at}

-- ---- numbers

-- a cell's number is this one
unfoldable pub is_number : ℤ → ℕ → Bool
is_number (pos n) m = eqb n m
is_number (negsuc n) m = false

-- a cell's number; where it is negative, one that no row or address has
unfoldable pub natural_of : ℤ → ℕ
natural_of (pos n) = n
natural_of (negsuc n) = 65536

-- what a cell reads as is a value
unfoldable pub is_value : Answer → Bool
is_value (Ok v) = true
is_value (Err stop) = false

-- "every variable cell has its layout's kind and range": the first cells are values of these kinds
unfoldable pub values_kept : List ℕ → List ℤ → Bool
values_kept [] l = true
values_kept (k ∷ kinds) [] = false
values_kept (k ∷ kinds) (z ∷ l) = is_value (cell_of k z) also values_kept kinds l

-- ---- cells by place

-- the first numbers, each with its kind
unfoldable pub zipped : List ℕ → List ℤ → List Cell
zipped [] l = []
zipped (k ∷ kinds) [] = []
zipped (k ∷ kinds) (z ∷ l) = record { kind = k; number = z } ∷ zipped kinds l

-- all numbers as cells: those that have no kind are loose
unfoldable pub dressed : List ℕ → List ℤ → List Cell
dressed kinds store = zipped kinds store ++ map tagged.loose (drop (length kinds) store)

module _ (g : Program) where
  -- the kinds that places in the globals and in the frames of these procedures give
  unfoldable pub kinds_below : List ℕ → List ℕ
  kinds_below [] = kinds_from g 0 (globals_of g.variables)
  kinds_below (q ∷ qs) =
      kinds_below qs
      ++ (LINK ∷ LINK ∷ LINK
      ∷ kinds_from g (first_variable g.variables g.procedures q) (claimed_by (row_at g.procedures q)))

  -- ---- frames

  -- the procedures of at most n frames by their links, from that of procedure q at base b on to procedure 0's
  unfoldable pub chain : List ℤ → ℕ → ℕ → ℕ → List ℕ
  chain store zero q b = []
  chain store (suc n) q b =
      q
      ∷ choose (eqb q 0) []
      (chain store n (natural_of (get_or store b (pos 0))) (natural_of (get_or store (b + 2) (pos 0))))

  -- the procedures of a state's frames, the newest first
  unfoldable pub frames_of : Registers → List ℤ → List ℕ
  frames_of s store = chain store (suc s.base) (procedure_at g.procedures s.row) s.base

  -- the row lies in the body of procedure q
  unfoldable pub inside_kept : ℕ → ℕ → Bool
  inside_kept q r =
      ltb q (rows_of g.procedures)
      also leb (row_at g.procedures q).a r
      also ltb r (body_end g.procedures (rows_of g.statements) q)

  -- "each VAR parameter's type cell names its own type or, for records, an extension; at its address begins" an object
  -- declared with the named type, in the older frames
  unfoldable pub reference_kept : List ℕ → ℕ → List ℤ → Bool
  reference_kept qs r [] = false
  reference_kept qs r (x ∷ []) = false
  reference_kept qs r (x ∷ y ∷ l) =
      is_number x (natural_of x)
      also is_number y (natural_of y)
      also extends g.types (natural_of y) r
      also object_at g (natural_of y) qs (natural_of x)

  -- what the cells of variable row k hold
  unfoldable pub slot_kept : List ℕ → ℕ → List ℤ → Bool
  slot_kept qs k l =
      choose (eqb (row_at g.variables k).kind 3) (reference_kept qs (row_at g.variables k).a l)
      (values_kept (layout_of g.types g.fields (row_at g.variables k).a) l)

  -- and those of n variables from row k on
  unfoldable pub slots_kept : List ℕ → ℕ → ℕ → List ℤ → Bool
  slots_kept qs k zero l = true
  slots_kept qs k (suc n) l =
      slot_kept qs k l also slots_kept qs (k + 1) n (drop (width_of g.types g.fields g.variables k) l)

  -- "each return row following a call of that procedure in the caller's body": of procedure q, from procedure c
  unfoldable pub call_kept : ℕ → ℕ → ℕ → Bool
  call_kept q c back =
      leb 1 back
      also eqb (row_at g.statements (back - 1)).kind 1
      also eqb (row_at g.statements (back - 1)).a q
      also inside_kept c (back - 1)
      also inside_kept c back

  -- "links lead frame by frame, .., to procedure 0's at G, whose links are 0": the three of a frame of procedure q
  unfoldable pub links_kept : ℕ → List ℕ → ℤ → ℤ → ℤ → Bool
  links_kept q [] x y z = eqb q 0 also is_number x 0 also is_number y 0 also is_number z 0
  links_kept q (c ∷ qs) x y z =
      call_kept q c (natural_of y) also is_number x c also is_number y (natural_of y) also is_number z (room_of g qs)

  -- a frame of procedure q: its links, then its variables
  unfoldable pub frame_kept : ℕ → List ℕ → List ℤ → Bool
  frame_kept q qs [] = false
  frame_kept q qs (x ∷ []) = false
  frame_kept q qs (x ∷ y ∷ []) = false
  frame_kept q qs (x ∷ y ∷ z ∷ l) =
      ltb q (rows_of g.procedures)
      also links_kept q qs x y z
      also slots_kept qs (first_variable g.variables g.procedures q) (claimed_by (row_at g.procedures q)) l

  -- the globals, and every frame
  unfoldable pub stack_kept : List ℕ → List ℤ → Bool
  stack_kept [] store = values_kept (kinds_from g 0 (globals_of g.variables)) store
  stack_kept (q ∷ qs) store = stack_kept qs store also frame_kept q qs (drop (room_of g qs) store)

  -- the newest frame begins at base and ends at top
  unfoldable pub ends_at : List ℕ → ℕ → ℕ → Bool
  ends_at [] base top = false
  ends_at (q ∷ qs) base top = eqb base (room_of g qs) also eqb top (room_of g (q ∷ qs))

  -- the state is sound
  unfoldable pub sound_of : Registers → List ℤ → Bool
  sound_of s store =
      leb (length store) 65536
      also leb s.top (length store)
      also ends_at (frames_of s store) s.base s.top
      also inside_kept (procedure_at g.procedures s.row) s.row
      also stack_kept (frames_of s store) store
