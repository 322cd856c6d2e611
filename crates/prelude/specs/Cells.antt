-- Cells of a table that are written one after the other.
use Rattle.std.specs.Prelude.{◌≡◌, List, ℕ, ◌+◌, ◌≤◌, ◌<◌, length, get_or}

-- n cells from cell `from` on hold g 0, g 1 and so on, and nothing else is written
pub record Filled (from n : ℕ) (g : ℕ → ℕ) (old table : List ℕ) : Type 0 where
  pub cells : length table ≡ length old
  pub cell : (j : ℕ) → j < n → get_or table (from + j) 0 ≡ g j
  pub below : (i : ℕ) → i < from → get_or table i 0 ≡ get_or old i 0
  pub above : (i : ℕ) → from + n ≤ i → get_or table i 0 ≡ get_or old i 0
