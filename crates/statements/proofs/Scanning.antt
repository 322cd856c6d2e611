-- Laws of the loop over statements.
use mathlib.Core.Path.{◌≡◌, refl}
use mathlib.Core.Bool.{Bool, true, false}
use mathlib.Core.List.{List}
use Prim.Native.Nat.{ℕ, zero, suc, ◌+◌, ◌≤◌}
use native.Mathlib.Omega.{arith}
use native.Mathlib.Numerals.{add-one}
use Rattle.prelude.specs.Choice.{choose}
use Rattle.image.specs.declared.Row.{Row}
use Rattle.image.specs.Rows.{row_at, rows_of}
use Rattle.statements.specs.Statements.{begins_at, next_procedure, procedure_at, statement_in, statement_kept}

pub statement_is : (n p s : List ℕ) (q r : ℕ) (row : Row) → row ≡ row_at s r → q ≡ procedure_at p r
    → statement_in n p (rows_of s) q r row ≡ statement_kept n p s r
unfolding statement_kept
statement_is n p s q r row this_row this_procedure = rw (this_row, this_procedure)

-- the first row is the module body's
pub procedure_first : (p : List ℕ) → 0 ≡ procedure_at p 0
unfolding procedure_at
procedure_first p = refl

-- the next row's procedure
pub procedure_next : (p : List ℕ) (q r : ℕ) → q ≡ procedure_at p r → next_procedure p q (r + 1) ≡ procedure_at p (r + 1)
unfolding procedure_at
procedure_next p q r e = rw (add-one r, e)

-- no more procedures than rows
pub procedure_few : (p : List ℕ) (r : ℕ) → procedure_at p r ≤ r
unfolding procedure_at next_procedure choose
procedure_few p zero = omega arith
procedure_few p (suc r) = go (begins_at p (procedure_at p r) (suc r)) (procedure_few p r)
  where
    go : (b : Bool) → procedure_at p r ≤ r → choose b (procedure_at p r + 1) (procedure_at p r) ≤ suc r
    go true h = omega arith
    go false h = omega arith
