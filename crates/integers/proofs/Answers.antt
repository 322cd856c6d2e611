-- What a division answers, by its divisor and operator.
use mathlib.Core.Path.{◌≡◌}
use mathlib.Core.Bool.{true, false}
use Prim.Native.Nat.{ℕ}
use borrow.Author.Tests.{eq-eqb, ne_eqb}
use lib.Dec.{eqb}
use lib.IntN.{ℤ, nat_abs}
use Rattle.prelude.specs.Choice.{choose}
use Rattle.integers.specs.Integers.{integer_of, div_of, mod_of, division_of}
use Rattle.values.specs.declared.Value.TheVariants as Vs
use Rattle.values.specs.declared.Trap.TheVariants as Ts
use Rattle.values.specs.declared.Stop.TheVariants as St
use Rattle.std.specs.Prelude.{Ok, Err}

-- "Trap 5 remains for zero alone"
pub not_divided : (op : ℕ) (x y : ℤ) → eqb (nat_abs y) 0 ≡ true → division_of op x y ≡ Err (St.Trap Ts.Divisor)
unfolding division_of choose
not_divided op x y h = rw h

pub div_divided : (op : ℕ) (x y : ℤ) → eqb (nat_abs y) 0 ≡ false → op ≡ 4 → division_of op x y ≡ integer_of (div_of x y)
unfolding division_of choose
div_divided op x y h e = rw (h, eq-eqb op 4 e)

-- MOD by every other divisor gives no trap
pub mod_divided : (op : ℕ) (x y : ℤ) → eqb (nat_abs y) 0 ≡ false → (op ≡ 4 → ⊥)
    → division_of op x y ≡ Ok (Vs.Int (mod_of x y))
unfolding division_of choose
mod_divided op x y h e = rw (h, ne_eqb op 4 e)
