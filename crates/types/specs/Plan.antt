-- The plan: a table of numbers that question 4 fills, so that a step need not add up sizes.
-- Cell r: the size of type row r. Cell INHERITED + r: how many fields the record in row r has from its base.
-- Cell OFFSETS + k: where field row k begins in its record.
use Rattle.std.specs.Prelude.{Ok, Err, ℕ, ◌+◌, ◌≤◌, ◌<◌, ◌≡◌, List, map, length, get_or}
use Rattle.image.specs.Faults.{Verdict}
use Rattle.prelude.specs.Parts.{sum}
use Rattle.image.specs.Rows.{rows_of}
use Rattle.shapes.specs.Forms.{Form.record_of, form, base_of, of_base, own_types}
use Rattle.shapes.specs.Sizes.{size_of, fields_of}
use Rattle.shapes.specs.Shapes.{used_below}
use Rattle.sizes.specs.Cells.{INHERITED, OFFSETS}

-- how many fields a type has from its base
unfoldable pub inherited_of : List ℕ → List ℕ → ℕ → ℕ
inherited_of t f r = of_base 0 (λ b. length (fields_of t f b)) (base_of (form t r))

-- where own field j of a record begins: behind the base and the own fields before it
unfoldable pub own_offset : List ℕ → List ℕ → ℕ → ℕ → ℕ → ℕ
own_offset t f base first j = of_base 0 (size_of t f) base + sum (map (size_of t f) (own_types f first j))

-- what the plan holds of the first n type rows
pub record Plan (t f : List ℕ) (n : ℕ) (plan : List ℕ) : Type 0 where
  pub size : (r : ℕ) → r < n → get_or plan r 0 ≡ size_of t f r
  pub inherited : (r : ℕ) → r < n → get_or plan (INHERITED + r) 0 ≡ inherited_of t f r
  pub offset : (r base first count j : ℕ) → r < n → form t r ≡ record_of base first count → j < count
      → get_or plan (OFFSETS + (first + j)) 0 ≡ own_offset t f base first j

-- every other cell is as it was
pub record Rest (t : List ℕ) (n : ℕ) (old plan : List ℕ) : Type 0 where
  pub cells : length plan ≡ length old
  pub sizes : (i : ℕ) → n ≤ i → i < INHERITED → get_or plan i 0 ≡ get_or old i 0
  pub inherited : (i : ℕ) → INHERITED + n ≤ i → i < OFFSETS → get_or plan i 0 ≡ get_or old i 0
  pub offsets : (i : ℕ) → OFFSETS + used_below t n ≤ i → get_or plan i 0 ≡ get_or old i 0

-- how many type rows were passed
unfoldable pub passed : List ℕ → Verdict → ℕ
passed t (Ok _) = rows_of t
passed t (Err r) = r
