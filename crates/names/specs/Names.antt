-- Question 9: each node is named exactly once.
use Rattle.image.specs.Faults.{Verdict, lowest_fault}
use Rattle.std.specs.Prelude.{ℕ, zero, suc, ◌+◌, Bool, List, [], ◌∷◌, ◌++◌, eqb}
use Rattle.prelude.specs.Choice.{choose}
use Rattle.image.specs.declared.Row.{Row}
use Rattle.image.specs.Rows.{row_at, rows_of}

-- "2 field b .. of a"; "3 element of a at b"; "5 dyadic a, b"; "6 monadic a"; "8 argument holding a":
-- no other node names any
unfoldable pub names_of_node : Row → List ℕ
names_of_node row =
    choose (eqb row.kind 2) (row.a ∷ [])
    (choose (eqb row.kind 3) (row.a ∷ row.b ∷ [])
    (choose (eqb row.kind 5) (row.a ∷ row.b ∷ [])
    (choose (eqb row.kind 6) (row.a ∷ [])
    (choose (eqb row.kind 8) (row.a ∷ []) []))))

-- "node rows b onward": count of them
unfoldable pub rows_from : ℕ → ℕ → List ℕ
rows_from b zero = []
rows_from b (suc count) = b ∷ rows_from (b + 1) count

-- "0 assign b to designator a."; "1 call procedure a ..; its arguments are node rows b onward, one .. per parameter";
-- "2 go to b if a is FALSE."; "5 read into designator a. 6 write a. 7 HALT(a).": no other statement names any
unfoldable pub names_of_statement : List ℕ → Row → List ℕ
names_of_statement p row =
    choose (eqb row.kind 0) (row.a ∷ row.b ∷ [])
    (choose (eqb row.kind 1) (rows_from row.b (row_at p row.a).b)
    (choose (eqb row.kind 2) (row.a ∷ [])
    (choose (eqb row.kind 5) (row.a ∷ [])
    (choose (eqb row.kind 6) (row.a ∷ [])
    (choose (eqb row.kind 7) (row.a ∷ []) [])))))

-- what the n rows from row i on name, by what each of them does
unfoldable pub names_from : (ℕ → List ℕ) → ℕ → ℕ → List ℕ
names_from names i zero = []
names_from names i (suc n) = names i ++ names_from names (i + 1) n

-- "named .. by a node or statement": what all of them name
unfoldable pub names_in : List ℕ → List ℕ → List ℕ → List ℕ
names_in n p s =
    names_from (λ i. names_of_node (row_at n i)) 0 (rows_of n)
    ++ names_from (λ i. names_of_statement p (row_at s i)) 0 (rows_of s)

-- how often node row k is named
unfoldable pub count_in : ℕ → List ℕ → ℕ
count_in k [] = 0
count_in k (x ∷ names) = choose (eqb x k) 1 0 + count_in k names

-- "named exactly once"
unfoldable pub named_once : List ℕ → ℕ → Bool
named_once names k = eqb (count_in k names) 1

-- "9. Is each node named exactly once, by a node or statement?"
unfoldable pub question9 : List ℕ → List ℕ → List ℕ → Verdict
question9 n p s = lowest_fault (named_once (names_in n p s)) (rows_of n)
