-- The part of the plan that belongs to variables and procedures, so that a step need not add up sizes.
-- Cell PLACES + k: where variable row k begins: a global in the store, another in its frame.
-- Cell FRAMES + q: the size of procedure q's frame. Cell FIRSTS + q: its first variable row; the row behind the last
-- procedure's variables follows. Cell GLOBALS: how many cells the globals have.
use Rattle.std.specs.Prelude.{ℕ, zero, suc, ◌+◌, ◌-◌, ◌≤◌, ◌<◌, ◌≡◌, List, eqb, length, get_or}
use Rattle.prelude.specs.Choice.{choose}
use Rattle.image.specs.Rows.{row_at, rows_of}
use Rattle.shapes.specs.Sizes.{size_of}
use Rattle.sizes.specs.Cells.{PLACES, FRAMES, FIRSTS, GLOBALS, BOUNDS}
use Rattle.frames.specs.Variables.{globals_of}
use Rattle.frames.specs.Procedures.{claimed_by, first_variable}

-- "a VAR parameter two cells, address and dynamic type, others their size": variable row k, by the sizes of types
unfoldable pub width_by : (ℕ → ℕ) → List ℕ → ℕ → ℕ
width_by size v k = choose (eqb (row_at v k).kind 3) 2 (size (row_at v k).a)

-- the cells of n variables from row k on
unfoldable pub room_by : (ℕ → ℕ) → List ℕ → ℕ → ℕ → ℕ
room_by size v k zero = 0
room_by size v k (suc n) = room_by size v k n + width_by size v (k + n)

abbrev pub width_of : List ℕ → List ℕ → List ℕ → ℕ → ℕ
width_of t f = width_by (size_of t f)

abbrev pub room_from : List ℕ → List ℕ → List ℕ → ℕ → ℕ → ℕ
room_from t f = room_by (size_of t f)

-- "Globals fill cells 0 to G - 1.": G
unfoldable pub global_cells : List ℕ → List ℕ → List ℕ → ℕ
global_cells t f v = room_from t f v 0 (globals_of v)

-- "Procedure p's frame of Fp cells holds three links .., then its variables": Fp of procedure q
unfoldable pub frame_size : List ℕ → List ℕ → List ℕ → List ℕ → ℕ → ℕ
frame_size t f v p q = 3 + room_from t f v (first_variable v p q) (claimed_by (row_at p q))

-- where variable row k of procedure q begins in its frame
unfoldable pub place_in : List ℕ → List ℕ → List ℕ → List ℕ → ℕ → ℕ → ℕ
place_in t f v p q k = 3 + room_from t f v (first_variable v p q) (k - first_variable v p q)

-- "Procedures use up the remaining variables in order": the first of each procedure, and the row behind the last
pub record Firsts (v p old firsts : List ℕ) : Type 0 where
  pub cells : length firsts ≡ length old
  pub first : (q : ℕ) → q ≤ rows_of p → get_or firsts q 0 ≡ first_variable v p q
  pub rest : (i : ℕ) → rows_of p < i → get_or firsts i 0 ≡ get_or old i 0

-- what the plan holds of variables and procedures; every other cell is as it was
pub record Places (t f v p old plan : List ℕ) : Type 0 where
  pub cells : length plan ≡ length old
  pub global : (k : ℕ) → k < globals_of v → get_or plan (PLACES + k) 0 ≡ room_from t f v 0 k
  pub own : (q j : ℕ) → q < rows_of p → j < claimed_by (row_at p q)
      → get_or plan (PLACES + (first_variable v p q + j)) 0 ≡ 3 + room_from t f v (first_variable v p q) j
  pub frame : (q : ℕ) → q < rows_of p → get_or plan (FRAMES + q) 0 ≡ frame_size t f v p q
  pub first : (q : ℕ) → q ≤ rows_of p → get_or plan (FIRSTS + q) 0 ≡ first_variable v p q
  pub globals : get_or plan GLOBALS 0 ≡ global_cells t f v
  pub types : (i : ℕ) → i < PLACES → get_or plan i 0 ≡ get_or old i 0
  pub variables : (k : ℕ) → first_variable v p (rows_of p) ≤ k → k < 256
      → get_or plan (PLACES + k) 0 ≡ get_or old (PLACES + k) 0
  pub frames : (q : ℕ) → rows_of p ≤ q → q < 64 → get_or plan (FRAMES + q) 0 ≡ get_or old (FRAMES + q) 0
  pub firsts : (q : ℕ) → rows_of p < q → q ≤ 64 → get_or plan (FIRSTS + q) 0 ≡ get_or old (FIRSTS + q) 0
  pub rest : (i : ℕ) → BOUNDS ≤ i → get_or plan i 0 ≡ get_or old i 0
