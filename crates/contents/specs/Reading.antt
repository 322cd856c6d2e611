-- What the functions that test the cells of an object read.
use Rattle.std.specs.Prelude.{ℕ, ◌+◌, ◌≤◌, ◌<◌, ◌≡◌, List, ℤ, length, get_or}
use Rattle.image.specs.Rows.{rows_of}
use Rattle.shapes.specs.Sizes.{size_of}
use Rattle.objects.specs.Looking.{Typed}
use Rattle.contents.specs.Kinds.{even_of}
use Rattle.contents.specs.declared.Reader.{Reader}

-- a table says of each type what its cells are
pub record Even (t f even : List ℕ) : Type 0 where
  pub rows : rows_of t ≤ length even
  pub each : (r : ℕ) → r < rows_of t → get_or even r 0 ≡ even_of t f r

-- accepted types with their sizes and what their cells are, and a store of at most 65,536 cells
pub record Readable (t f plan even : List ℕ) (store : List ℤ) : Type 0 where
  pub typed : Typed t f plan
  pub evens : Even t f even
  pub most : length store ≤ 65536

-- an object of type row r, from address a on, lies in the store
pub record Inside (t f : List ℕ) (store : List ℤ) (r a : ℕ) : Type 0 where
  pub row : r < rows_of t
  pub room : a + size_of t f r ≤ length store

-- the same of what a Reader lends
abbrev pub Reads : Reader → Type 0
Reads x = Readable x.t.now x.f.now x.plan.now x.even.now x.store.now

abbrev pub Holds : Reader → ℕ → ℕ → Type 0
Holds x r a = Inside x.t.now x.f.now x.store.now r a
