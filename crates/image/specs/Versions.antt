-- What hangs on the version of an image.
use Rattle.std.specs.Prelude.{ℕ}

-- "Rows 0, 1, 2 are kinds 0 BOOLEAN, 1 INTEGER, 2 SET.": how many scalar types stand first
unfoldable pub scalar_rows : ℕ → ℕ
scalar_rows version = 3

-- "6 monadic a, operator c: 1 -, 2 ~.": monadic operators are 1 to this
unfoldable pub monadics : ℕ → ℕ
monadics version = 2
