-- What the functions that fill the plan ask and give.
use Rattle.std.specs.Prelude.{Ok, ℕ, ◌+◌, ◌≤◌, ◌<◌, ◌≡◌, List, length, get_or}
use Rattle.image.specs.Rows.{row_at, rows_of}
use Rattle.sizes.specs.Cells.{PLACES, FRAMES, FIRSTS, BOUNDS}
use Rattle.types.specs.Question.{TypesAccepted}
use Rattle.types.specs.Plan.{Plan}
use Rattle.frames.specs.Variables.{globals_of, question5}
use Rattle.frames.specs.Procedures.{claimed_by, first_variable}
use Rattle.places.specs.Places.{room_by}

-- a type's size, as the plan has it
abbrev pub held : List ℕ → ℕ → ℕ
held plan r = get_or plan r 0

-- the variables have types below 64, whose sizes in the plan do not exceed 4,096
pub record VariablesFit (v plan : List ℕ) : Type 0 where
  pub few : rows_of v ≤ 256
  pub cells : BOUNDS ≤ length plan
  pub low : (k : ℕ) → k < rows_of v → (row_at v k).a < 64
  pub small : (k : ℕ) → k < rows_of v → held plan (row_at v k).a ≤ 4096

-- every procedure's variables exist
abbrev pub Claims : List ℕ → List ℕ → Type 0
Claims v p = (q : ℕ) → q < rows_of p → first_variable v p q + claimed_by (row_at p q) ≤ rows_of v

-- and the plan holds the first of each
pub record FramesFit (v p plan : List ℕ) : Type 0 where
  pub variables : VariablesFit v plan
  pub few : rows_of p ≤ 64
  pub claims : Claims v p
  pub first : (q : ℕ) → q < rows_of p → get_or plan (FIRSTS + q) 0 ≡ first_variable v p q

-- the frames of the first n procedures are written, with types sized by `size`, and nothing else
pub record Framed (size : ℕ → ℕ) (v p : List ℕ) (n : ℕ) (old plan : List ℕ) : Type 0 where
  pub cells : length plan ≡ length old
  pub own : (q j : ℕ) → q < n → j < claimed_by (row_at p q)
      → get_or plan (PLACES + (first_variable v p q + j)) 0 ≡ 3 + room_by size v (first_variable v p q) j
  pub frame : (q : ℕ) → q < n
      → get_or plan (FRAMES + q) 0 ≡ 3 + room_by size v (first_variable v p q) (claimed_by (row_at p q))
  pub below : (i : ℕ) → i < PLACES + globals_of v → get_or plan i 0 ≡ get_or old i 0
  pub variables : (i : ℕ) → PLACES + first_variable v p n ≤ i → i < FRAMES → get_or plan i 0 ≡ get_or old i 0
  pub above : (i : ℕ) → FRAMES + n ≤ i → get_or plan i 0 ≡ get_or old i 0

-- accepted tables, and a plan that question 4 filled
pub record PlacesFit (t f v p plan : List ℕ) : Type 0 where
  pub cells : BOUNDS ≤ length plan
  pub few_types : rows_of t ≤ 64
  pub few_variables : rows_of v ≤ 256
  pub few_procedures : rows_of p ≤ 64
  pub types : TypesAccepted t f
  pub variables : question5 t v ≡ Ok tt
  pub claims : Claims v p
  pub planned : Plan t f (rows_of t) plan
