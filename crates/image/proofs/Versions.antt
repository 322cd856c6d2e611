-- How many scalar types and monadic operators there are, whatever the version.
use Prim.Native.Nat.{ℕ, ◌≤◌}
use native.Mathlib.Omega.{arith}
use Rattle.image.specs.Versions.{scalar_rows, monadics}

module _ (version : ℕ) where
  -- BOOLEAN, INTEGER and SET
  pub three_rows : 3 ≤ scalar_rows version
  unfolding scalar_rows
  three_rows = omega arith

  pub few_rows : scalar_rows version ≤ 3
  unfolding scalar_rows
  few_rows = omega arith

  pub few_monadics : monadics version ≤ 2
  unfolding monadics
  few_monadics = omega arith
