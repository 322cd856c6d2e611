-- The bits of a word.
use Rattle.std.specs.Prelude.{ℕ, ◌/◌, ◌%◌, ◌^◌, Bool, eqb}

-- bit i of a word
unfoldable pub bit_of : ℕ → ℕ → Bool
bit_of word i = eqb (word / 2 ^ i % 2) 1
