-- Sound states of the tagged machine. The frames are ghost data: what they say is of the cells, by place.
use Rattle.relations.specs.Fields.{field_at, field_of}
use Rattle.std.specs.Prelude.{Some, ℕ, ◌+◌, ◌*◌, ◌≤◌, ◌<◌, ◌≡◌, true, List, [], ◌∷◌, ◌++◌, map, pos, length, take, Ok}
use Rattle.prelude.specs.Parts.{joined}
use Rattle.image.specs.Rows.{row_at, rows_of}
use Rattle.shapes.specs.Sizes.{size_of, layout_of}
use Rattle.relations.specs.Extends.{extends}
use Rattle.frames.specs.Variables.{globals_of}
use Rattle.frames.specs.Procedures.{first_variable, claimed_by, body_end}
use Rattle.names.specs.Names.{rows_from}
use Rattle.places.specs.Places.{room_from, place_in}
use Rattle.values.specs.Values.{cell_of}
use Rattle.values.specs.declared.Value.{Value}
use Rattle.semantics.specs.Memory.{LINK, ADDRESS, TYPE, Cell}
use Rattle.semantics.specs.Layout.{Program, kinds_from}
use Rattle.semantics.specs.Stepping.{State}

-- ---- cells by place

-- what a place is to hold: any value of a scalar kind, or of a link, an address or a type exactly one number
pub data Want : Type 0 where
  any_value : ℕ → Want
  exactly : ℕ → ℕ → Want

-- "every variable cell has its layout's kind and range"
pub data Fits : Cell → Want → Type 0 where
  fits_value : {c : Cell} {k : ℕ} {v : Value} → c.kind ≡ k → cell_of k c.number ≡ Ok v → Fits c (any_value k)
  fits_exactly : {c : Cell} {k n : ℕ} → c.kind ≡ k → c.number ≡ pos n → Fits c (exactly k n)

-- lists of one length, related place by place
pub data Matched {A B : Type 0} (R : A → B → Type 0) : List A → List B → Type 0 where
  no_more : Matched R [] []
  one_more : {a : A} {b : B} {l : List A} {r : List B} → R a b → Matched R l r → Matched R (a ∷ l) (b ∷ r)

-- a frame: its procedure, its three links, and what the cells of each variable are to hold
pub record Frame : Type 0 where
  pub procedure : ℕ
  pub caller : ℕ
  pub back : ℕ
  pub callers_base : ℕ
  pub slots : List (List Want)

module _ (g : Program) where
  -- what the cells of an object of type r are to hold
  unfoldable pub values_of : ℕ → List Want
  values_of r = map any_value (layout_of g.types g.fields r)

  -- "Procedure p's frame .. holds three links (..), then its variables"
  unfoldable pub frame_wants : Frame → List Want
  frame_wants f = exactly LINK f.caller ∷ exactly LINK f.back ∷ exactly LINK f.callers_base ∷ joined f.slots

  -- all cells below top: the globals', then frame by frame, "each beginning where the older ends"; the newest comes
  -- first
  unfoldable pub wants : List Frame → List Want
  wants [] = map any_value (kinds_from g 0 (globals_of g.variables))
  wants (f ∷ fs) = wants fs ++ frame_wants f

  -- where the next frame begins
  abbrev pub room : List Frame → ℕ
  room fs = length (wants fs)

  -- the row lies in the body of procedure q
  pub record Inside (q r : ℕ) : Type 0 where
    pub procedure : q < rows_of g.procedures
    pub start : (row_at g.procedures q).a ≤ r
    pub end : r < body_end g.procedures (rows_of g.statements) q

  -- variable row k is procedure q's own
  pub record Own (q k : ℕ) : Type 0 where
    pub low : first_variable g.variables g.procedures q ≤ k
    pub high : k < first_variable g.variables g.procedures (q + 1)

  -- at this address begins, in these frames, "a global, an older frame's local or value parameter, or an element or
  -- field at any depth of one, declared with the named type". An object without cells begins at its place too.
  pub data Object : List Frame → ℕ → ℕ → Type 0 where
    of_global : {fs : List Frame} (k : ℕ) → k < globals_of g.variables
        → Object fs (room_from g.types g.fields g.variables 0 k) (row_at g.variables k).a
    of_frame : {f : Frame} {fs : List Frame} {k : ℕ} → Own f.procedure k → (row_at g.variables k).kind ≤ 2
        → Object (f ∷ fs) (room fs + place_in g.types g.fields g.variables g.procedures f.procedure k)
        (row_at g.variables k).a
    of_older : {f : Frame} {fs : List Frame} {at r : ℕ} → Object fs at r → Object (f ∷ fs) at r
    of_field : {fs : List Frame} {at r offset u : ℕ} (j : ℕ) → Object fs at r
        → field_of g.types g.fields r j ≡ Some (field_at offset u) → Object fs (at + offset) u
    of_element : {fs : List Frame} {at r i : ℕ} → Object fs at r → (row_at g.types r).kind ≡ 3
        → i < (row_at g.types r).b → Object fs (at + i * size_of g.types g.fields (row_at g.types r).a) (row_at g.types r).a

  -- what variable row k's cells are to hold, where `fs` are the older frames: "each VAR parameter's type cell names its
  -- own type or, for records, an extension; at its address begins" an object declared with the named type
  pub data Slot (fs : List Frame) (k : ℕ) : List Want → Type 0 where
    by_value : (row_at g.variables k).kind ≤ 2 → Slot fs k (values_of (row_at g.variables k).a)
    by_reference : {at r : ℕ} → (row_at g.variables k).kind ≡ 3 → Object fs at r
        → extends g.types r (row_at g.variables k).a ≡ true → Slot fs k (exactly ADDRESS at ∷ exactly TYPE r ∷ [])

  -- "to procedure 0's at G, whose links are 0, each return row following a call of that procedure in the caller's body"
  pub data Called (f : Frame) : List Frame → Type 0 where
    is_first : f.procedure ≡ 0 → f.caller ≡ 0 → f.back ≡ 0 → f.callers_base ≡ 0 → Called f []
    is_called : {c : Frame} {fs : List Frame} (r : ℕ) → (row_at g.statements r).kind ≡ 1
        → (row_at g.statements r).a ≡ f.procedure
        → Inside c.procedure r → Inside c.procedure (r + 1) → f.caller ≡ c.procedure → f.back ≡ r + 1
        → f.callers_base ≡ room fs → Called f (c ∷ fs)

  -- "links lead frame by frame"
  pub data Stack : List Frame → Type 0 where
    no_frame : Stack []
    a_frame : {f : Frame} {fs : List Frame} → Stack fs → f.procedure < rows_of g.procedures → Called f fs
        → Matched (Slot fs)
        (rows_from (first_variable g.variables g.procedures f.procedure)
        (claimed_by (row_at g.procedures f.procedure))) f.slots
        → Stack (f ∷ fs)

  -- "Sound: the row lies in the body of the top frame's procedure, whose frame ends at top, within the store"
  pub record Sound (s : State Cell) : Type 0 where
    pub newest : Frame
    pub others : List Frame
    pub stack : Stack (newest ∷ others)
    pub holding : Matched Fits (take s.at.top s.cells) (wants (newest ∷ others))
    pub inside : Inside newest.procedure s.at.row
    pub begins : s.at.base ≡ room others
    pub ends : s.at.top ≡ room (newest ∷ others)
    pub stored : s.at.top ≤ length s.cells
    pub lent : length s.cells ≤ 65536
