-- Question 6: the procedures, their bodies and their variables.
use Rattle.image.specs.Faults.{Verdict, all_from, lowest_fault, rule_up_to}
use Rattle.std.specs.Prelude.{ℕ, zero, suc, ◌+◌, Bool, true, List, ltb, leb, eqb}
use Rattle.prelude.specs.Choice.{choose, ◌also◌}
use Rattle.image.specs.declared.Row.{Row}
use Rattle.image.specs.Rows.{row_at, rows_of}
use Rattle.frames.specs.Variables.{is_local, is_parameter, globals_of}

-- "b parameter count, c local count": how many variables a procedure row claims
unfoldable pub claimed_by : Row → ℕ
claimed_by row = row.b + row.c

-- "Procedures use up the remaining variables in order": the first variable of procedure r, behind `globals`
unfoldable pub first_from : List ℕ → ℕ → ℕ → ℕ
first_from p globals zero = globals
first_from p globals (suc r) = first_from p globals r + claimed_by (row_at p r)

unfoldable pub first_variable : List ℕ → List ℕ → ℕ → ℕ
first_variable v p r = first_from p (globals_of v) r

-- "A body .. ends where the next begins; .. the last ends with the table."
unfoldable pub body_end : List ℕ → ℕ → ℕ → ℕ
body_end p statements r = choose (ltb (r + 1) (rows_of p)) (row_at p (r + 1)).a statements

-- "the first begins at 0"; "Procedure 0 is the module body: no parameters"
unfoldable pub module_kept : ℕ → Row → Bool
module_kept r row = choose (eqb r 0) (eqb row.a 0 also eqb row.b 0) true

-- "Kind 0; a first statement"; "A body is nonempty"
unfoldable pub body_kept : List ℕ → ℕ → ℕ → Row → Bool
body_kept p statements r row =
    eqb row.kind 0
    also eqb row.zero 0
    also module_kept r row
    also ltb row.a statements
    also ltb row.a (body_end p statements r)

-- "parameters before locals", the variables from `first` on
unfoldable pub own_kept : List ℕ → ℕ → Row → Bool
own_kept v first row =
    leb (first + claimed_by row) (rows_of v)
    also all_from (is_parameter v) first row.b
    also all_from (is_local v) (first + row.b) row.c

unfoldable pub procedure_kept : List ℕ → List ℕ → List ℕ → ℕ → Bool
procedure_kept v p s r = body_kept p (rows_of s) r (row_at p r) also own_kept v (first_variable v p r) (row_at p r)

-- "6. Does each procedure row keep its rule? (Empty body: its own row. Unclaimed variable: row = procedure count.)"
unfoldable pub question6 : List ℕ → List ℕ → List ℕ → Verdict
question6 v p s =
    lowest_fault (rule_up_to (procedure_kept v p s) (rows_of p) (eqb (first_variable v p (rows_of p)) (rows_of v)))
    (rows_of p + 1)
