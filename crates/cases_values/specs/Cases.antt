-- A case of data/operators.bin: its parts, what the operators answer, and whether that is what the case says.
use Rattle.std.specs.Prelude.{Bool, false, List, ℕ, zero, suc, ◌+◌, ◌*◌, eqb, ℤ, pos, ◌+ℤ◌, ◌*ℤ◌, get_or, take, drop}
use Rattle.std.specs.Prelude.{Ok, Err}
use Rattle.std.specs.Bool.{beq}
use Rattle.prelude.specs.Choice.{choose}
use Rattle.values.specs.Values.{constant_of, cell_of, number_of, trap_number, bind, Answer}
use Rattle.operators.specs.Operators.{dyadic_of, monadic_of, equal_z}
use Rattle.values.specs.declared.Value.{Value}
use Rattle.values.specs.declared.Value.TheVariants as Vs
use Rattle.values.specs.declared.Stop.TheVariants as St

-- ---- a case's parts

unfoldable pub half_at : List ℕ → ℕ → ℕ
half_at s at = get_or s at 0 * 256 + get_or s (at + 1) 0

unfoldable pub operand_at : List ℕ → ℕ → ℕ → Answer
operand_at s kind at = constant_of kind (half_at s at) (half_at s (at + 2))

-- 64 bits: the upper 32 as an INTEGER, and two halves of the lower ones
unfoldable pub wide_at : ℤ → ℕ → ℕ → ℤ
wide_at high b c = (high *ℤ pos 4294967296) +ℤ pos (b * 65536 + c)

-- ---- what the operators answer

unfoldable pub dyadic_case : List ℕ → Answer
dyadic_case s =
    bind (operand_at s (get_or s 2 0) 4) (λ v. bind (operand_at s (get_or s 3 0) 8) (λ w. dyadic_of (get_or s 1 0) v w))

unfoldable pub monadic_case : List ℕ → Answer
monadic_case s = bind (operand_at s (get_or s 2 0) 4) (λ v. monadic_of (get_or s 1 0) v)

-- a cell of this kind whose number has the upper half v
unfoldable pub cell_with : List ℕ → Value → Answer
cell_with s (Vs.Bool p) = Err St.Stuck
cell_with s (Vs.Int h) = cell_of (get_or s 2 0) (wide_at h (half_at s 8) (half_at s 10))
cell_with s (Vs.Set t) = Err St.Stuck

unfoldable pub cell_case : List ℕ → Answer
cell_case s = bind (operand_at s 1 4) (cell_with s)

unfoldable pub number_case : List ℕ → Answer
number_case s = bind (operand_at s (get_or s 2 0) 4) (λ v. cell_of (get_or s 2 0) (number_of v))

unfoldable pub answer_of : List ℕ → Answer
answer_of s =
    choose (eqb (get_or s 0 0) 0) (dyadic_case s)
    (choose (eqb (get_or s 0 0) 1) (monadic_case s)
    (choose (eqb (get_or s 0 0) 2) (cell_case s)
    (choose (eqb (get_or s 0 0) 3) (operand_at s (get_or s 2 0) 4) (number_case s))))

-- ---- against what the case says

unfoldable pub same_value : Value → Value → Bool
same_value (Vs.Bool p) (Vs.Bool q) = beq p q
same_value (Vs.Bool p) (Vs.Int y) = false
same_value (Vs.Bool p) (Vs.Set t) = false
same_value (Vs.Int x) (Vs.Bool q) = false
same_value (Vs.Int x) (Vs.Int y) = equal_z x y
same_value (Vs.Int x) (Vs.Set t) = false
same_value (Vs.Set s) (Vs.Bool q) = false
same_value (Vs.Set s) (Vs.Int y) = false
same_value (Vs.Set s) (Vs.Set t) = eqb s t

unfoldable pub same_as : Value → Answer → Bool
same_as v (Ok w) = same_value v w
same_as v (Err stop) = false

unfoldable pub agrees : Answer → List ℕ → Bool
agrees (Ok v) s = same_as v (operand_at s (get_or s 12 0) 13)
agrees (Err (St.Trap t)) s = choose (eqb (get_or s 12 0) 3) (eqb (trap_number t) (half_at s 15)) false
agrees (Err St.Stuck) s = eqb (get_or s 12 0) 4

unfoldable pub is_good : List ℕ → Bool
is_good s = agrees (answer_of s) s

-- ---- the cases of a question that are as good as asked

unfoldable pub case_at : List ℕ → ℕ → List ℕ
case_at cases k = take 17 (drop (k * 17) cases)

unfoldable pub weight_at : List ℕ → ℕ → Bool → ℕ → ℕ
weight_at cases what good k =
    choose (eqb (get_or (case_at cases k) 0 0) what) (choose (beq (is_good (case_at cases k)) good) 1 0) 0

-- among the first n
unfoldable pub counted : List ℕ → ℕ → Bool → ℕ → ℕ
counted cases what good zero = 0
counted cases what good (suc n) = counted cases what good n + weight_at cases what good n
