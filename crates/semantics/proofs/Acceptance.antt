-- Document 01's starred cases as one table: the paper's words, and what the definitions give.
use Rattle.std.specs.Prelude.{Ok, Err, Ok, Err}
use mathlib.Core.Path.{◌≡◌, refl}
use mathlib.Core.Bool.{true, false}
use mathlib.Core.List.{List, [], ◌∷◌}
use Prim.Native.Nat.{ℕ}
use lib.IntN.{ℤ, pos, neg_ℤ}
use Rattle.prelude.specs.Parts.{joined}
use Rattle.values.specs.Values.{trap_number, Answer}
use Rattle.values.specs.declared.Value.{Value}
use Rattle.values.specs.declared.Value.TheVariants as Vs
use Rattle.values.specs.declared.Trap.TheVariants as Ts
use Rattle.values.specs.declared.Stop.TheVariants as St
use Rattle.operators.specs.Operators.{dyadic_of, monadic_of}
use Rattle.shapes.specs.Sizes.{size_of, layout_of}
use Rattle.relations.specs.Extends.{extends}
use Rattle.types.specs.Question.{question4}
use Rattle.checker.specs.Check.{check_of, number_of}
use Rattle.semantics.specs.Memory.{Cell, tagged}
use Rattle.semantics.specs.Finding.{object, find_of, eval_of, Found}
use Rattle.semantics.specs.Stepping.{State}
use Rattle.semantics.specs.Running.{program_of, ran_of, result_of, store_after, output_after}
use Rattle.semantics.proofs.Opened.{rows, shapes, sizes, integers, operators, run}
use Rattle.semantics.proofs.Images.{start, count, row, zeros, results}

-- ---- values: dyadic 4 DIV, 5 MOD, 15 IN, 16 range; monadic 1 -

-- an INTEGER from 0 on, and one below
abbrev pub int : ℕ → Value
int n = Vs.Int (pos n)

abbrev pub minus : ℕ → Value
minus n = Vs.Int (neg_ℤ (pos n))

-- 1. "-5 DIV 3 = -2, MOD 1; 5 by 3: 1, 2."
pub case_1 :
    (dyadic_of 4 (minus 5) (int 3) ≡ Ok (minus 2))
    × (dyadic_of 5 (minus 5) (int 3) ≡ Ok (int 1))
    × (dyadic_of 4 (int 5) (int 3) ≡ Ok (int 1))
    × (dyadic_of 5 (int 5) (int 3) ≡ Ok (int 2))
unfolding rows integers operators
case_1 = (refl, refl, refl, refl)

-- 2. "-(-2147483648): trap 4; that DIV 1: itself."
pub case_2 :
    (monadic_of 1 (minus 2147483648) ≡ Err (St.Trap Ts.Overflow))
    × (trap_number Ts.Overflow ≡ 4)
    × (dyadic_of 4 (minus 2147483648) (int 1) ≡ Ok (minus 2147483648))
unfolding rows integers operators
case_2 = (refl, refl, refl)

-- 3. "7 DIV 0: trap 5; 7 DIV -1 = -7."
pub case_3 :
    (dyadic_of 4 (int 7) (int 0) ≡ Err (St.Trap Ts.Divisor))
    × (trap_number Ts.Divisor ≡ 5)
    × (dyadic_of 4 (int 7) (minus 1) ≡ Ok (minus 7))
unfolding rows integers operators
case_3 = (refl, refl, refl)

-- "-2147483648 DIV -1 gives trap 4, and its MOD is 0."
pub case_overflow :
    (dyadic_of 4 (minus 2147483648) (minus 1) ≡ Err (St.Trap Ts.Overflow))
    × (trap_number Ts.Overflow ≡ 4)
    × (dyadic_of 5 (minus 2147483648) (minus 1) ≡ Ok (int 0))
unfolding rows integers operators
case_overflow = (refl, refl, refl)

-- 4. "0..3 is 15, 3..0 is 0, 31..31 is 2147483648, 0..32 trap 6."
pub case_4 :
    (dyadic_of 16 (int 0) (int 3) ≡ Ok (Vs.Set 15))
    × (dyadic_of 16 (int 3) (int 0) ≡ Ok (Vs.Set 0))
    × (dyadic_of 16 (int 31) (int 31) ≡ Ok (Vs.Set 2147483648))
    × (dyadic_of 16 (int 0) (int 32) ≡ Err (St.Trap Ts.Bound))
    × (trap_number Ts.Bound ≡ 6)
unfolding rows integers operators
case_4 = (refl, refl, refl, refl, refl)

-- 5. "-{} is 4294967295; 32 IN it: trap 6."
pub case_5 :
    (monadic_of 1 (Vs.Set 0) ≡ Ok (Vs.Set 4294967295))
    × (dyadic_of 15 (int 32) (Vs.Set 4294967295) ≡ Err (St.Trap Ts.Bound))
    × (trap_number Ts.Bound ≡ 6)
unfolding rows integers operators
case_5 = (refl, refl, refl)

-- ---- whole images

-- the state of the tagged machine after n steps, and in it the object and the value of node row r
abbrev pub state_after : List ℕ → ℕ → State Cell
state_after image n = (ran_of image [] (zeros 32) (zeros 1) n).state

abbrev pub found_after : List ℕ → ℕ → ℕ → Found
found_after image n r =
    let s = state_after image n in
    find_of tagged (program_of image) s.at.base s.at.top s.cells r

abbrev pub value_after : List ℕ → ℕ → ℕ → Answer
value_after image n r =
    let s = state_after image n in
    eval_of tagged (program_of image) s.at.base s.at.top s.cells r

-- 0. BEGIN IF FALSE & (7 DIV 0 = 1) THEN END END
abbrev pub skipping : List ℕ
skipping = joined (
    start 121
    ∷ count 3  -- types
    ∷ row 0 0 0 0  -- 0 BOOLEAN
    ∷ row 1 0 0 0  -- 1 INTEGER
    ∷ row 2 0 0 0  -- 2 SET
    ∷ count 0  -- fields
    ∷ count 0  -- variables
    ∷ count 1  -- procedures
    ∷ row 0 0 0 0  -- 0 the module body, from statement 0 on
    ∷ count 7  -- nodes
    ∷ row 0 0 0 0  -- 0 FALSE
    ∷ row 0 1 0 7  -- 1 the INTEGER 7
    ∷ row 0 1 0 0  -- 2 the INTEGER 0
    ∷ row 5 1 2 4  -- 3 7 DIV 0
    ∷ row 0 1 0 1  -- 4 the INTEGER 1
    ∷ row 5 3 4 7  -- 5 7 DIV 0 = 1
    ∷ row 5 0 5 13  -- 6 FALSE & (7 DIV 0 = 1)
    ∷ count 2  -- statements
    ∷ row 2 6 1 0  -- 0 go to 1 if node 6 is FALSE
    ∷ row 4 0 0 0  -- 1 RETURN
    ∷ [])

-- 6. "FALSE & (7 DIV 0 = 1): FALSE." The right operand by itself traps; the program that asks both finishes.
pub case_6 :
    (check_of skipping ≡ Ok tt)
    × (value_after skipping 0 5 ≡ Err (St.Trap Ts.Divisor))
    × (value_after skipping 0 6 ≡ Ok (Vs.Bool false))
    × (result_of skipping [] (zeros 32) [] 100 ≡ results 0 0 1 0 0 1 2 0 0 0 3 3)
unfolding run
case_6 = (refl, refl, refl, refl)

-- ---- types

-- BOOLEAN, INTEGER, SET, a record of an INTEGER, and one that extends it by a SET
abbrev pub type_rows : List (List ℕ)
type_rows = row 0 0 0 0 ∷ row 1 0 0 0 ∷ row 2 0 0 0 ∷ row 4 0 0 1 ∷ row 4 4 1 1 ∷ []

abbrev pub field_rows : List (List ℕ)
field_rows = row 0 1 0 0 ∷ row 0 2 0 0 ∷ []

-- 7. "Row 3 record of an INTEGER, row 4 extends it by a SET: sizes 1, 2; 4 extends 3, 3 not 4."
pub case_7 :
    let types = joined type_rows in
    let fields = joined field_rows in
    (question4 1 types fields ≡ Ok tt)
    × (size_of types fields 3 ≡ 1)
    × (size_of types fields 4 ≡ 2)
    × (layout_of types fields 4 ≡ 1 ∷ 2 ∷ [])
    × (extends types 4 3 ≡ true)
    × (extends types 3 4 ≡ false)
unfolding rows shapes sizes
case_7 = (refl, refl, refl, refl, refl, refl)

-- VAR large: type 4; small: type 3;
-- 1. PROCEDURE change (VAR v: type 3); BEGIN IF v IS type 4 THEN v := small END END change;
-- 0. BEGIN change(large) END
abbrev pub changing : List ℕ
changing = joined (
    start 193
    ∷ count 5  -- types: case 7's
    ∷ joined type_rows
    ∷ count 2  -- fields: case 7's
    ∷ joined field_rows
    ∷ count 3  -- variables
    ∷ row 0 4 0 0  -- 0 global large: type 4
    ∷ row 0 3 0 0  -- 1 global small: type 3
    ∷ row 3 3 0 0  -- 2 VAR parameter v: type 3
    ∷ count 2  -- procedures
    ∷ row 0 0 0 0  -- 0 the module body, from statement 0 on
    ∷ row 0 2 1 0  -- 1 change, from statement 2 on, one parameter
    ∷ count 5  -- nodes
    ∷ row 1 0 0 0  -- 0 large
    ∷ row 8 0 0 0  -- 1 the argument large
    ∷ row 7 2 4 0  -- 2 v IS type 4
    ∷ row 1 2 0 0  -- 3 v
    ∷ row 1 1 0 0  -- 4 small
    ∷ count 5  -- statements
    ∷ row 1 1 1 0  -- 0 change(large)
    ∷ row 4 0 0 0  -- 1 RETURN
    ∷ row 2 2 4 0  -- 2 go to 4 if v IS type 4 is FALSE
    ∷ row 0 3 4 0  -- 3 v := small
    ∷ row 4 0 0 0  -- 4 RETURN
    ∷ [])

-- 8. "VAR of type 3 holding a 4: IS 4 TRUE; assigning a 3 to it: trap 3." Steps: the call; the jump, not taken; the
-- assignment in row 3. The test is node 2, asked in the state after the call.
pub case_8 :
    (check_of changing ≡ Ok tt)
    × (value_after changing 1 2 ≡ Ok (Vs.Bool true))
    × (result_of changing [] (zeros 32) [] 100 ≡ results 0 0 2 3 0 3 3 0 0 6 11 11)
unfolding run
case_8 = (refl, refl, refl)

-- VAR list: ARRAY 4 OF INTEGER;
-- 0. BEGIN write list[index] END, the index a constant of the two halves b and c
abbrev pub indexing : ℕ → ℕ → List ℕ
indexing b c = joined (
    start 105
    ∷ count 4  -- types
    ∷ row 0 0 0 0  -- 0 BOOLEAN
    ∷ row 1 0 0 0  -- 1 INTEGER
    ∷ row 2 0 0 0  -- 2 SET
    ∷ row 3 1 4 0  -- 3 ARRAY 4 OF INTEGER
    ∷ count 0  -- fields
    ∷ count 1  -- variables
    ∷ row 0 3 0 0  -- 0 global list: type 3
    ∷ count 1  -- procedures
    ∷ row 0 0 0 0  -- 0 the module body, from statement 0 on
    ∷ count 3  -- nodes
    ∷ row 1 0 0 0  -- 0 list
    ∷ row 0 1 b c  -- 1 the index
    ∷ row 3 0 1 0  -- 2 list[index]
    ∷ count 2  -- statements
    ∷ row 6 2 0 0  -- 0 write list[index]
    ∷ row 4 0 0 0  -- 1 RETURN
    ∷ [])

-- 9. "Length 4: index 3 good, 4 and -1 trap 1." The element is node 2; at index 3 it is the INTEGER in cell 3, and it
-- is written. The last index is -1.
pub case_9 :
    let at3 = indexing 0 3 in
    let at4 = indexing 0 4 in
    let at_1 = indexing 65535 65535 in
    (found_after at3 0 2 ≡ object 3 1)
    × (result_of at3 [] (zeros 32) (zeros 1) 100 ≡ results 0 0 1 0 0 1 2 0 1 4 7 7)
    × (found_after at4 0 2 ≡ Err (St.Trap Ts.Index))
    × (result_of at4 [] (zeros 32) (zeros 1) 100 ≡ results 0 0 2 1 0 0 1 0 0 4 7 7)
    × (value_after at_1 0 1 ≡ Ok (minus 1))
    × (found_after at_1 0 2 ≡ Err (St.Trap Ts.Index))
    × (result_of at_1 [] (zeros 32) (zeros 1) 100 ≡ results 0 0 2 1 0 0 1 0 0 4 7 7)
unfolding run
case_9 = (refl, refl, refl, refl, refl, refl, refl)

-- "Hexadecimal 01 00000039 0003, rows 0000000000000000, 0100000000000000, 0200000000000000, then 0000 0000 0001,
-- row 0000000000000000, 0000 0001, row 0400000000000000"
abbrev pub smallest : List ℕ
smallest =
    1 ∷
    0 ∷ 0 ∷ 0 ∷ 57 ∷
    0 ∷ 3 ∷
    0 ∷ 0 ∷ 0 ∷ 0 ∷ 0 ∷ 0 ∷ 0 ∷ 0 ∷
    1 ∷ 0 ∷ 0 ∷ 0 ∷ 0 ∷ 0 ∷ 0 ∷ 0 ∷
    2 ∷ 0 ∷ 0 ∷ 0 ∷ 0 ∷ 0 ∷ 0 ∷ 0 ∷
    0 ∷ 0 ∷
    0 ∷ 0 ∷
    0 ∷ 1 ∷
    0 ∷ 0 ∷ 0 ∷ 0 ∷ 0 ∷ 0 ∷ 0 ∷ 0 ∷
    0 ∷ 0 ∷
    0 ∷ 1 ∷
    4 ∷ 0 ∷ 0 ∷ 0 ∷ 0 ∷ 0 ∷ 0 ∷ 0 ∷ []

-- 10. "`doorrun` prints `0 0 1 0 0 0 1 0 0`.": "no inputs, 8,192 cells, 4,096 outputs, 100,000 steps"
pub case_10 :
    (check_of smallest ≡ Ok tt)
    × (number_of (check_of smallest) ≡ 0)
    × (result_of smallest [] (zeros 8192) (zeros 4096) 100000 ≡ results 0 0 1 0 0 0 1 0 0 0 3 3)
unfolding run
case_10 = (refl, refl, refl)

-- "Two cells: refusal 13.", whatever they and the rest are; "a refusal leaves store and output untouched"
pub case_10_two_cells : (input output : List ℤ) (x y : ℤ) (steps : ℕ) →
    (result_of smallest input (x ∷ y ∷ []) output steps ≡ results 13 0 0 0 0 0 0 0 0 0 0 0)
    × (store_after smallest input (x ∷ y ∷ []) output steps ≡ x ∷ y ∷ [])
    × (output_after smallest input (x ∷ y ∷ []) output steps ≡ output)
unfolding run
case_10_two_cells input output x y steps = (refl, refl, refl)
