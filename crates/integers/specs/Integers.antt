-- What the operators 1 to 5 give on INTEGERs.
use Rattle.std.specs.Prelude.{ℕ, suc, ◌/◌, ◌≡◌, Bool, true, eqb, ℤ, pos, negsuc, neg_ℤ, nat_abs, ◌+ℤ◌, ◌-ℤ◌, ◌*ℤ◌}
use Rattle.std.specs.Prelude.{Ok, Err}
use Rattle.std.specs.Int.Signed.{le_z, lt_z}
use Rattle.prelude.specs.Choice.{choose, ◌also◌}
use Rattle.values.specs.Values.{is_integer, Answer}
use Rattle.values.specs.declared.Value.TheVariants as Vs
use Rattle.values.specs.declared.Trap.TheVariants as Ts
use Rattle.values.specs.declared.Stop.TheVariants as St

-- an INTEGER result; trap 4 "INTEGER overflow" where it is out of range
unfoldable pub integer_of : ℤ → Answer
integer_of z = choose (is_integer z) (Ok (Vs.Int z)) (Err (St.Trap Ts.Overflow))

-- a number by a magnitude, rounded down
unfoldable pub quotient_of : ℤ → ℕ → ℤ
quotient_of (pos a) d = pos (a / d)
quotient_of (negsuc a) d = negsuc (a / d)

-- "DIV rounds down", by a negative divisor too: x by y is -x by -y
unfoldable pub div_of : ℤ → ℤ → ℤ
div_of x (pos n) = quotient_of x n
div_of x (negsuc n) = quotient_of (neg_ℤ x) (suc n)

-- "x = (x DIV y) × y + (x MOD y)"
unfoldable pub mod_of : ℤ → ℤ → ℤ
mod_of x y = x -ℤ (div_of x y *ℤ y)

-- 4 DIV, 5 MOD; trap 5 "divisor zero"
unfoldable pub division_of : ℕ → ℤ → ℤ → Answer
division_of op x y =
    choose (eqb (nat_abs y) 0) (Err (St.Trap Ts.Divisor))
    (choose (eqb op 4) (integer_of (div_of x y)) (Ok (Vs.Int (mod_of x y))))

-- 1 +, 2 -, 3 *, 4 DIV, 5 MOD
unfoldable pub arithmetic_of : ℕ → ℤ → ℤ → Answer
arithmetic_of op x y =
    choose (eqb op 1) (integer_of (x +ℤ y))
    (choose (eqb op 2) (integer_of (x -ℤ y))
    (choose (eqb op 3) (integer_of (x *ℤ y)) (division_of op x y)))

-- ---- what DIV and MOD are known by, whatever their definitions

-- "0 ≤ x MOD y < y", and for a negative divisor "y < x MOD y ≤ 0": r is such a remainder
unfoldable pub is_remainder : ℤ → ℤ → Bool
is_remainder (pos n) r = le_z (pos 0) r also lt_z r (pos n)
is_remainder (negsuc n) r = lt_z (negsuc n) r also le_z r (pos 0)

-- "x = (x DIV y) × y + (x MOD y)" of a quotient q and such a remainder r: as r / y is from 0 to below 1, q is x / y
-- rounded down
pub record Divided (x y q r : ℤ) : Type 0 where
  pub whole : x ≡ (q *ℤ y) +ℤ r
  pub remains : is_remainder y r ≡ true
