-- Which types a type extends, as bits of a word.
use Rattle.std.specs.Prelude.{ℕ, ◌-◌, ◌^◌, List, ltb}
use Rattle.std.specs.Int.Bits.{bit_or}
use Rattle.prelude.specs.Choice.{choose}
use Rattle.prelude.specs.Rec.{rec}
use Rattle.shapes.specs.Forms.{form, base_of, of_base}

-- type row r's own bit in a word of 32 whose bit 0 is row `low`, 0 where it has none
unfoldable pub own_bit : ℕ → ℕ → ℕ
own_bit low r = choose (ltb r low) 0 (choose (ltb 31 (r - low)) 0 (2 ^ (r - low)))

-- "T extends U if T is U or T's base extends U": the word of type row r, whose bit i is that it extends row low + i
unfoldable pub word_of : List ℕ → ℕ → ℕ → ℕ
word_of t low = rec 0 (λ word r. bit_or (of_base 0 word (base_of (form t r))) (own_bit low r))
