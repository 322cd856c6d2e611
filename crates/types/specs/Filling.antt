-- What the functions that fill the plan ask and give.
use Rattle.std.specs.Prelude.{ℕ, ◌+◌, ◌≤◌, ◌<◌, ◌≡◌, true, List, map, length, get_or}
use Rattle.prelude.specs.Parts.{sum}
use Rattle.prelude.specs.Cells.{Filled}
use Rattle.image.specs.declared.Row.{Row}
use Rattle.image.specs.Rows.{row_at, rows_of}
use Rattle.image.specs.Faults.{KeptIn}
use Rattle.shapes.specs.Forms.{own_types}
use Rattle.shapes.specs.Sizes.{size_of}
use Rattle.shapes.specs.Shapes.{used_below, type_kept}
use Rattle.sizes.specs.Cells.{OFFSETS, PLACES}
use Rattle.types.specs.Plan.{Plan}

-- n field rows from row k on have types below 64, and behind `at` their sizes do not exceed 4,096
pub record OffsetsFit (f plan : List ℕ) (k n at : ℕ) : Type 0 where
  pub cells : OFFSETS + (k + n) ≤ length plan
  pub low : (j : ℕ) → k ≤ j → j < k + n → (row_at f j).a < 64
  pub total : at + sum (map (λ r. get_or plan r 0) (own_types f k n)) ≤ 4096

-- their places are written, and nothing else
abbrev pub Offsets : List ℕ → ℕ → ℕ → ℕ → List ℕ → List ℕ → Type 0
Offsets f k n at old plan = Filled (OFFSETS + k) n (λ j. at + sum (map (λ r. get_or old r 0) (own_types f k j))) old plan

-- type row r keeps its rule, and the plan holds what it does of the rows below
pub record Ready (t f plan : List ℕ) (used r : ℕ) (row : Row) (size : ℕ) : Type 0 where
  pub version : ℕ
  pub few_rows : r < 64
  pub few_fields : rows_of f ≤ 256
  pub cells : PLACES ≤ length plan
  pub this_row : row ≡ row_at t r
  pub claimed : used ≡ used_below t r
  pub sized : size ≡ size_of t f r
  pub below : KeptIn (type_kept version t f) 0 r
  pub here : type_kept version t f r ≡ true
  pub planned : Plan t f r plan
