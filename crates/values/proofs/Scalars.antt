-- Laws of the scalar kinds.
use mathlib.Core.Path.{◌≡◌, refl}
use mathlib.Core.Bool.{false}
use Prim.Native.Nat.{ℕ, zero, suc, ◌≤◌, ◌<◌}
use native.Mathlib.Omega.{arith}
use borrow.Author.Tests.{ne_eqb}
use lib.IntN.{ℤ, pos}
use Rattle.prelude.specs.Choice.{choose}
use Rattle.values.specs.Values.{Scalar, Scalar.a_boolean, Scalar.an_integer, Scalar.a_set, kind_of, is_integer}
use Rattle.values.specs.Values.{is_set, boolean_cell, integer_cell, set_cell, cell_of}
use Rattle.values.specs.declared.Value.{Value}
use Rattle.values.specs.declared.Value.TheVariants as Vs
use Rattle.values.specs.declared.Stop.TheVariants as St
use Rattle.std.specs.Prelude.{Ok, Err}

-- they are the lowest numbers
pub scalar_below : {k : ℕ} → Scalar k → k < 3
scalar_below a_boolean = omega arith
scalar_below an_integer = omega arith
scalar_below a_set = omega arith

pub below_scalar : (k : ℕ) → k < 3 → Scalar k
below_scalar zero h = a_boolean
below_scalar (suc zero) h = an_integer
below_scalar (suc (suc zero)) h = a_set
below_scalar (suc (suc (suc k))) h = absurd (omega arith)

-- a value has one of them
pub value_scalar : (v : Value) → Scalar (kind_of v)
unfolding kind_of
value_scalar (Vs.Bool b) = a_boolean
value_scalar (Vs.Int z) = an_integer
value_scalar (Vs.Set s) = a_set

-- a zeroed cell holds a value of each
pub scalar_zero : {k : ℕ} → Scalar k → (v : Value) × (cell_of k (pos 0) ≡ Ok v)
unfolding cell_of boolean_cell integer_cell is_integer set_cell is_set choose
scalar_zero a_boolean = (Vs.Bool false, refl)
scalar_zero an_integer = (Vs.Int (pos 0), refl)
scalar_zero a_set = (Vs.Set 0, refl)

-- and no cell one of another kind
pub no_scalar_cell : (k : ℕ) (z : ℤ) → 3 ≤ k → cell_of k z ≡ Err St.Stuck
unfolding cell_of choose
no_scalar_cell k z h = rw (ne_eqb k 0 (omega arith), ne_eqb k 1 (omega arith), ne_eqb k 2 (omega arith))
