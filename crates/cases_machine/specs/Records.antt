-- What a record of the pack says.
use Rattle.std.specs.Prelude.{ℕ, ◌+◌, ◌*◌, ◌<◌, ◌≡◌, List, get_or, ℤ, pos, ◌-ℤ◌}
use Rattle.image.specs.Rows.{word_at}

-- input i: inputs stand from byte 20 on, each with 2,147,483,648 added to it
unfoldable pub input_at : List ℕ → ℕ → ℤ
input_at bytes i = pos (word_at bytes (20 + i * 4)) -ℤ pos 2147483648

-- the first n inputs
pub record Inputs (bytes : List ℕ) (n : ℕ) (input : List ℤ) : Type 0 where
  pub place : (i : ℕ) → i < n → get_or input i (pos 0) ≡ input_at bytes i
