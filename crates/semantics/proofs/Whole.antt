-- A whole program that the check accepts and that runs to its end, so that what is shown of accepted images is shown
-- of something. It has an extended record passed to a VAR parameter and handed on, a nested call, a type test, guards
-- and a HALT.
use Rattle.std.specs.Prelude.{Ok}
use mathlib.Core.Path.{◌≡◌, refl}
use mathlib.Core.List.{List, [], ◌∷◌, map}
use Prim.Native.Nat.{ℕ}
use lib.IntN.{ℤ, pos}
use Rattle.prelude.specs.Parts.{joined}
use Rattle.checker.specs.Check.{check_of}
use Rattle.semantics.specs.Running.{result_of, store_after, output_after}
use Rattle.semantics.proofs.Opened.{run}
use Rattle.semantics.proofs.Images.{start, count, row, zeros, results}
use Rattle.semantics.proofs.Acceptance.{type_rows, field_rows}

-- Types 3 and 4 are case 7's: RECORD number: INTEGER END, and RECORD (type 3) set: SET END.
-- VAR large: type 4; small: type 3;
-- 1. PROCEDURE pass (VAR v: type 3); BEGIN fill(v, 7) END pass;
-- 2. PROCEDURE fill (VAR w: type 3; k: INTEGER);
--    BEGIN IF w IS type 4 THEN w(type 4).set := {0..k} END; w(type 3).number := k * k END fill;
-- 0. BEGIN pass(large); small := large; write small.number; HALT(5) END
abbrev pub whole : List ℕ
whole = joined (
    start 393
    ∷ count 5  -- types: case 7's
    ∷ joined type_rows
    ∷ count 2  -- fields: case 7's
    ∷ joined field_rows
    ∷ count 5  -- variables
    ∷ row 0 4 0 0  -- 0 global large: type 4
    ∷ row 0 3 0 0  -- 1 global small: type 3
    ∷ row 3 3 0 0  -- 2 VAR parameter v: type 3
    ∷ row 3 3 0 0  -- 3 VAR parameter w: type 3
    ∷ row 2 1 0 0  -- 4 value parameter k: INTEGER
    ∷ count 3  -- procedures
    ∷ row 0 0 0 0  -- 0 the module body, from statement 0 on
    ∷ row 0 4 1 0  -- 1 pass, from statement 4 on, one parameter
    ∷ row 0 6 2 0  -- 2 fill, from statement 6 on, two parameters
    ∷ count 22  -- nodes
    ∷ row 1 0 0 0  -- 0 large
    ∷ row 8 0 0 0  -- 1 the argument large
    ∷ row 1 1 0 0  -- 2 small
    ∷ row 1 0 0 0  -- 3 large
    ∷ row 1 1 0 0  -- 4 small
    ∷ row 2 4 0 0  -- 5 small.number
    ∷ row 0 1 0 5  -- 6 the constant 5
    ∷ row 1 2 0 0  -- 7 v
    ∷ row 0 1 0 7  -- 8 the constant 7
    ∷ row 8 7 0 0  -- 9 the argument v
    ∷ row 8 8 0 0  -- 10 the argument 7
    ∷ row 7 3 4 0  -- 11 w IS type 4
    ∷ row 4 3 4 0  -- 12 w(type 4)
    ∷ row 2 12 1 0  -- 13 w(type 4).set
    ∷ row 0 1 0 0  -- 14 the constant 0
    ∷ row 1 4 0 0  -- 15 k
    ∷ row 5 14 15 16  -- 16 {0..k}
    ∷ row 4 3 3 0  -- 17 w(type 3)
    ∷ row 2 17 0 0  -- 18 w(type 3).number
    ∷ row 1 4 0 0  -- 19 k
    ∷ row 1 4 0 0  -- 20 k
    ∷ row 5 19 20 3  -- 21 k * k
    ∷ count 10  -- statements
    ∷ row 1 1 1 0  -- 0 pass(large)
    ∷ row 0 2 3 0  -- 1 small := large
    ∷ row 6 5 0 0  -- 2 write small.number
    ∷ row 7 6 0 0  -- 3 HALT(5)
    ∷ row 1 2 9 0  -- 4 fill(v, 7)
    ∷ row 4 0 0 0  -- 5 RETURN
    ∷ row 2 11 8 0  -- 6 go to 8 if w IS type 4 is FALSE
    ∷ row 0 13 16 0  -- 7 w(type 4).set := {0..k}
    ∷ row 0 18 21 0  -- 8 w(type 3).number := k * k
    ∷ row 4 0 0 0  -- 9 RETURN
    ∷ [])

pub whole_accepted : check_of whole ≡ Ok tt
unfolding run
whole_accepted = refl

-- the store, of just enough cells, after the run
abbrev pub left : List ℤ
left = map pos (
    49 ∷ 255  -- large
    ∷ 49  -- small
    ∷ 0 ∷ 0 ∷ 0  -- the module body's links
    ∷ 0 ∷ 1 ∷ 3  -- the links of pass: procedure 0, row 1, base 3
    ∷ 0 ∷ 4  -- v: address 0, type 4
    ∷ 1 ∷ 5 ∷ 6  -- the links of fill: procedure 1, row 5, base 6
    ∷ 0 ∷ 4  -- w: address 0, type 4
    ∷ 7  -- k
    ∷ [])

-- Ten steps: rows 0, 4, 6, 7, 8, 9, 5, 1, 2, 3. The last is HALT(5), trap 10; one output of two is written.
-- These numbers would differ if own fields came before the base's, a guard asked for equality, a VAR parameter were
-- handed on with its static type, or a projection copied the extension too.
pub whole_run :
    (result_of whole [] (zeros 17) (zeros 2) 100 ≡ results 0 0 2 10 5 3 10 0 1 3 6 17)
    × (output_after whole [] (zeros 17) (zeros 2) 100 ≡ pos 49 ∷ pos 0 ∷ [])
    × (store_after whole [] (zeros 17) (zeros 2) 100 ≡ left)
unfolding run
whole_run = (refl, refl, refl)
