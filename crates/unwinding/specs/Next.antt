-- A table by which a loop over variables leaves out those without cells: records without fields, and arrays of them.
use Rattle.std.specs.Prelude.{ℕ, zero, suc, ◌+◌, ◌-◌, ◌≤◌, ◌<◌, ◌≡◌, List, eqb, length, get_or}
use Rattle.prelude.specs.Choice.{choose}
use Rattle.image.specs.Rows.{rows_of}
use Rattle.places.specs.Places.{width_of}
use Rattle.semantics.specs.Layout.{Program}

-- how many places it has: the constant of the code once more
abbrev pub NEXT : ℕ
NEXT = 257

module _ (g : Program) where
  -- variable row k where it has cells, or this row
  unfoldable pub first_or : ℕ → ℕ → ℕ
  first_or k behind = choose (eqb (width_of g.types g.fields g.variables k) 0) behind k

  -- the first that has cells of n rows from row k on; the row behind them where none has
  unfoldable pub first_of : ℕ → ℕ → ℕ
  first_of zero k = k
  first_of (suc n) k = first_or k (first_of n (k + 1))

  -- the first of all rows from row k on; how many rows there are where none has cells
  unfoldable pub next_of : ℕ → ℕ
  next_of k = first_of (rows_of g.variables - k) k

  -- a table of these, with a place behind that of the last row
  pub record Skips (next : List ℕ) : Type 0 where
    pub room : rows_of g.variables < length next
    pub each : (k : ℕ) → k ≤ rows_of g.variables → get_or next k 0 ≡ next_of k
