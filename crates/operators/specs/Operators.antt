-- What the operators give, by operator number and by the operands' kinds.
use Rattle.std.specs.Prelude.{ℕ, Bool, false, not, ◌||◌, ◌&&◌, leb, eqb, ℤ, pos, negsuc, neg_ℤ, Ok, Err}
use Rattle.std.specs.Bool.{beq}
use Rattle.std.specs.Int.Signed.{lt_z}
use Rattle.std.specs.Int.Bits.{bit_and, bit_or, bit_xor}
use Rattle.prelude.specs.Choice.{choose}
use Rattle.values.specs.Values.{as_boolean, as_integer, as_set, bind, Answer}
use Rattle.integers.specs.Integers.{integer_of, arithmetic_of}
use Rattle.sets.specs.Sets.{contains_of, range_of, complement_of}
use Rattle.values.specs.declared.Value.{Value}
use Rattle.values.specs.declared.Value.TheVariants as Vs
use Rattle.values.specs.declared.Stop.TheVariants as St

-- 7 =, 8 #, 9 <, 10 <=, 11 >, 12 >=, from whether the left is less and whether the two are equal
unfoldable pub compare_of : ℕ → Bool → Bool → Bool
compare_of op less equal =
    choose (eqb op 7) equal
    (choose (eqb op 8) (not equal)
    (choose (eqb op 9) less
    (choose (eqb op 10) (less || equal)
    (choose (eqb op 11) (not (less || equal)) (not less)))))

unfoldable pub equal_z : ℤ → ℤ → Bool
equal_z (pos a) (pos b) = eqb a b
equal_z (pos a) (negsuc b) = false
equal_z (negsuc a) (pos b) = false
equal_z (negsuc a) (negsuc b) = eqb a b

-- ---- by the operands' kinds

-- two INTEGERs: "Operators 1 to 5 take INTEGER", "7, 8 take two of one scalar type; 9 to 12 INTEGER",
-- "range takes INTEGER twice"
unfoldable pub integers_of : ℕ → ℤ → ℤ → Answer
integers_of op x y =
    choose (leb 1 op && leb op 5) (arithmetic_of op x y)
    (choose (leb 7 op && leb op 12) (Ok (Vs.Bool (compare_of op (lt_z x y) (equal_z x y))))
    (choose (eqb op 16) (range_of x y) (Err St.Stuck)))

-- two SETs: "1, 2, 3, 6 also SET (union, difference, intersection, symmetric difference)"; 7 and 8
unfoldable pub sets_of : ℕ → ℕ → ℕ → Answer
sets_of op s t =
    choose (eqb op 1) (Ok (Vs.Set (bit_or s t)))
    (choose (eqb op 2) (Ok (Vs.Set (bit_and s (complement_of t))))
    (choose (eqb op 3) (Ok (Vs.Set (bit_and s t)))
    (choose (eqb op 6) (Ok (Vs.Set (bit_xor s t)))
    (choose (leb 7 op && leb op 8) (Ok (Vs.Bool (compare_of op false (eqb s t)))) (Err St.Stuck)))))

-- two BOOLEANs: 7 and 8; "13, 14, ~ BOOLEAN"
unfoldable pub booleans_of : ℕ → Bool → Bool → Answer
booleans_of op p q =
    choose (leb 7 op && leb op 8) (Ok (Vs.Bool (compare_of op false (beq p q))))
    (choose (eqb op 13) (Ok (Vs.Bool (p && q)))
    (choose (eqb op 14) (Ok (Vs.Bool (p || q))) (Err St.Stuck)))

-- an INTEGER and a SET: "IN takes INTEGER, SET"
unfoldable pub membership_of : ℕ → ℤ → ℕ → Answer
membership_of op x t = choose (eqb op 15) (contains_of x t) (Err St.Stuck)

-- "5 dyadic a, b, operator c", both operands found: by the left one's kind, then the right one's
unfoldable pub dyadic_of : ℕ → Value → Value → Answer
dyadic_of op (Vs.Bool p) w = as_boolean (Err St.Stuck) w (booleans_of op p)
dyadic_of op (Vs.Int x) w = as_integer (as_set (Err St.Stuck) w (membership_of op x)) w (integers_of op x)
dyadic_of op (Vs.Set s) w = as_set (Err St.Stuck) w (sets_of op s)

-- "6 monadic a, operator c: 1 -, 2 ~."
unfoldable pub monadic_of : ℕ → Value → Answer
monadic_of op (Vs.Bool p) = choose (eqb op 2) (Ok (Vs.Bool (not p))) (Err St.Stuck)
monadic_of op (Vs.Int x) = choose (eqb op 1) (integer_of (neg_ℤ x)) (Err St.Stuck)
monadic_of op (Vs.Set s) = choose (eqb op 1) (Ok (Vs.Set (complement_of s))) (Err St.Stuck)

-- "& and OR skip the right one when the left decides": FALSE decides 13 &, TRUE decides 14 OR
unfoldable pub decides : ℕ → Value → Bool
decides op v = as_boolean false v λ p. choose (eqb op 13) (not p) (choose (eqb op 14) p false)

-- "Operands go left to right": a dyadic operator whose left operand is found, and whose right one gives an answer
-- if it is asked
unfoldable pub applied_to : ℕ → Value → Answer → Answer
applied_to op v right = choose (decides op v) (Ok v) (bind right (λ w. dyadic_of op v w))
