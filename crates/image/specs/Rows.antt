-- Rows of a table that stands in a list of bytes.
use Rattle.std.specs.Prelude.{ℕ, ◌+◌, ◌*◌, ◌/◌, ◌<◌, List, ltb, length, get_or}
use Rattle.prelude.specs.Choice.{choose}
use Rattle.image.specs.declared.Row.{Row}

-- a list of bytes: each number is below 256
pub record Bytes (s : List ℕ) : Type 0 where
  pub each : (i : ℕ) → get_or s i 0 < 256

-- "Integers in it are unsigned and big-endian": the 16-bit number at byte j
unfoldable pub number_at : List ℕ → ℕ → ℕ
number_at t j = get_or t j 0 * 256 + get_or t (j + 1) 0

-- the 32-bit number at byte j
unfoldable pub word_at : List ℕ → ℕ → ℕ
word_at t j = number_at t j * 65536 + number_at t (j + 2)

-- "A row is 8 bytes": how many a table has
unfoldable pub rows_of : List ℕ → ℕ
rows_of t = length t / 8

-- a row that is not there: of kind 255, for which there is no rule
abbrev pub no_row : Row
no_row = record { kind = 255; zero = 0; a = 0; b = 0; c = 0 }

-- "A row is 8 bytes: kind, a zero byte, 16-bit numbers a, b, c. Rows count from 0."
unfoldable pub row_at : List ℕ → ℕ → Row
row_at t i =
    choose (ltb i (rows_of t))
    (record {
      kind = get_or t (i * 8) 0;
      zero = get_or t (i * 8 + 1) 0;
      a = number_at t (i * 8 + 2);
      b = number_at t (i * 8 + 4);
      c = number_at t (i * 8 + 6);
    })
    no_row
