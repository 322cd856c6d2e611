-- Elements of a SET: what IN, a range and a complement give.
use Rattle.std.specs.Prelude.{ℕ, ◌+◌, ◌-◌, ◌^◌, Bool, ◌&&◌, ltb, ℤ, pos, nat_abs, Ok, Err}
use Rattle.std.specs.Int.Signed.{le_z, lt_z}
use Rattle.prelude.specs.Bits.{bit_of}
use Rattle.prelude.specs.Choice.{choose, ◌also◌}
use Rattle.values.specs.declared.Value.TheVariants as Vs
use Rattle.values.specs.declared.Trap.TheVariants as Ts
use Rattle.values.specs.declared.Stop.TheVariants as St
use Rattle.values.specs.Values.{Answer}

-- an element that a SET can have: "SET has bit i for element i, 0 to 31"
unfoldable pub is_element : ℤ → Bool
is_element x = le_z (pos 0) x && lt_z x (pos 32)

-- 15 IN, both operands found: "IN with an element outside 0 to 31 gives trap 6"
unfoldable pub contains_of : ℤ → ℕ → Answer
contains_of x s = choose (is_element x) (Ok (Vs.Bool (bit_of s (nat_abs x)))) (Err (St.Trap Ts.Bound))

-- the elements a to b: "Range a..b with a > b, both bounds in 0 to 31, is empty."
unfoldable pub elements_of : ℕ → ℕ → ℕ
elements_of a b = choose (ltb b a) 0 (2 ^ (b + 1) - 2 ^ a)

-- 16 range; trap 6 "range bound or element of IN outside 0 to 31"
unfoldable pub range_of : ℤ → ℤ → Answer
range_of x y =
    choose (is_element x also is_element y) (Ok (Vs.Set (elements_of (nat_abs x) (nat_abs y)))) (Err (St.Trap Ts.Bound))

-- "Monadic - takes INTEGER or SET (complement)."
unfoldable pub complement_of : ℕ → ℕ
complement_of s = 4294967295 - s
