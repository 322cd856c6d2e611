-- Values of the scalar kinds, answers, and how a cell and a constant hold a value.
use Rattle.std.specs.Prelude.{ℕ, ◌+◌, ◌*◌, ◌≡◌, Bool, true, false, ltb, eqb, ℤ, pos, negsuc, ◌-ℤ◌, Result, Ok, Err}
use Rattle.std.specs.Int.Signed.{lt_z}
use Rattle.prelude.specs.Choice.{choose}
use Rattle.values.specs.declared.Value.{Value}
use Rattle.values.specs.declared.Value.TheVariants as Vs
use Rattle.values.specs.declared.Trap.{Trap}
use Rattle.values.specs.declared.Trap.TheVariants as Ts
use Rattle.values.specs.declared.Stop.TheVariants as St
use Rattle.values.specs.declared.Stop.{Stop}

-- what an evaluation gives: a value, or why there is none, a trap or that no rule applies ("stuck")
abbrev pub Answer : Type 0
Answer = Result Value Stop

-- "Rows 0, 1, 2 are kinds 0 BOOLEAN, 1 INTEGER, 2 SET."
abbrev pub BOOLEAN : ℕ
BOOLEAN = 0

abbrev pub INTEGER : ℕ
INTEGER = 1

abbrev pub SET : ℕ
SET = 2

-- the scalar kinds
pub data Scalar : ℕ → Type 0 where
  a_boolean : Scalar BOOLEAN
  an_integer : Scalar INTEGER
  a_set : Scalar SET

-- the kind of a value
unfoldable pub kind_of : Value → ℕ
kind_of (Vs.Bool b) = BOOLEAN
kind_of (Vs.Int z) = INTEGER
kind_of (Vs.Set s) = SET

-- "INTEGER is -2147483648 to 2147483647"
unfoldable pub is_integer : ℤ → Bool
is_integer z = choose (lt_z z (negsuc 2147483647)) false (choose (lt_z (pos 2147483647) z) false true)

-- "SET has bit i for element i, 0 to 31"
unfoldable pub is_set : ℕ → Bool
is_set s = ltb s 4294967296

-- the value is in its kind's range
pub data InRange : Value → Type 0 where
  boolean : {b : Bool} → InRange (Vs.Bool b)
  integer : {z : ℤ} → is_integer z ≡ true → InRange (Vs.Int z)
  set : {s : ℕ} → is_set s ≡ true → InRange (Vs.Set s)

-- "Traps: 1 index; 2 guard; 3 record target's dynamic type is not its static one ..; 4 INTEGER overflow;
-- 5 divisor zero; 6 range bound or element of IN outside 0 to 31; 7 frame beyond the store; 8 input used up ..;
-- 9 output full ..; 10 HALT."
unfoldable pub trap_number : Trap → ℕ
trap_number Ts.Index = 1
trap_number Ts.Guard = 2
trap_number Ts.Target = 3
trap_number Ts.Overflow = 4
trap_number Ts.Divisor = 5
trap_number Ts.Bound = 6
trap_number Ts.Frame = 7
trap_number Ts.Input = 8
trap_number Ts.Output = 9
trap_number Ts.Halt = 10

-- the number that a cell holds for a value: "FALSE is 0"
unfoldable pub number_of : Value → ℤ
number_of (Vs.Bool b) = choose b (pos 1) (pos 0)
number_of (Vs.Int z) = z
number_of (Vs.Set s) = pos s

-- a cell's number as a BOOLEAN
unfoldable pub boolean_cell : ℤ → Answer
boolean_cell (pos n) =
    choose (eqb n 0) (Ok (Vs.Bool false)) (choose (eqb n 1) (Ok (Vs.Bool true)) (Err St.Stuck))
boolean_cell (negsuc n) = Err St.Stuck

-- a cell's number as an INTEGER
unfoldable pub integer_cell : ℤ → Answer
integer_cell z = choose (is_integer z) (Ok (Vs.Int z)) (Err St.Stuck)

-- a cell's number as a SET
unfoldable pub set_cell : ℤ → Answer
set_cell (pos n) = choose (is_set n) (Ok (Vs.Set n)) (Err St.Stuck)
set_cell (negsuc n) = Err St.Stuck

-- A cell's number as a value of a kind. "Where an operand's cell lacks the needed kind or range, .., no rule applies:
-- stuck"
unfoldable pub cell_of : ℕ → ℤ → Answer
cell_of kind z =
    choose (eqb kind BOOLEAN) (boolean_cell z)
    (choose (eqb kind INTEGER) (integer_cell z)
    (choose (eqb kind SET) (set_cell z) (Err St.Stuck)))

-- 32 bits in two's complement
unfoldable pub signed_of : ℕ → ℤ
signed_of n = choose (ltb n 2147483648) (pos n) (pos n -ℤ pos 4294967296)

-- "0 constant: a type (0 to 2); b × 65,536 + c is the value, two's complement for INTEGER, 0 or 1 for BOOLEAN."
unfoldable pub constant_of : ℕ → ℕ → ℕ → Answer
constant_of kind b c =
    choose (eqb kind BOOLEAN) (boolean_cell (pos (b * 65536 + c)))
    (choose (eqb kind INTEGER) (Ok (Vs.Int (signed_of (b * 65536 + c))))
    (choose (eqb kind SET) (Ok (Vs.Set (b * 65536 + c))) (Err St.Stuck)))

-- ---- what follows from a value of one kind; `other` where it is of another

unfoldable pub as_boolean : {X : Type 0} → X → Value → (Bool → X) → X
as_boolean other (Vs.Bool b) next = next b
as_boolean other (Vs.Int z) next = other
as_boolean other (Vs.Set s) next = other

unfoldable pub as_integer : {X : Type 0} → X → Value → (ℤ → X) → X
as_integer other (Vs.Bool b) next = other
as_integer other (Vs.Int z) next = next z
as_integer other (Vs.Set s) next = other

unfoldable pub as_set : {X : Type 0} → X → Value → (ℕ → X) → X
as_set other (Vs.Bool b) next = other
as_set other (Vs.Int z) next = other
as_set other (Vs.Set s) next = next s

-- ---- answers

-- "A trap in an operand ends the step with that trap": the next operand's turn comes only after a value
unfoldable pub bind : Answer → (Value → Answer) → Answer
bind (Ok v) next = next v
bind (Err stop) next = Err stop

-- an answer that is a value of the kind, in its range, or a trap; never stuck
pub data Gives (kind : ℕ) : Answer → Type 0 where
  value : {v : Value} → kind_of v ≡ kind → InRange v → Gives kind (Ok v)
  trapped : {t : Trap} → Gives kind (Err (St.Trap t))
