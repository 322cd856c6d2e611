-- Question 8: the form of a statement.
use Rattle.image.specs.Faults.{Verdict, all_from, lowest_fault}
use Rattle.std.specs.Prelude.{ℕ, zero, suc, ◌+◌, Bool, true, false, not, List, ltb, leb, eqb}
use Rattle.prelude.specs.Choice.{choose, ◌also◌}
use Rattle.image.specs.declared.Row.{Row}
use Rattle.image.specs.Rows.{row_at, rows_of}
use Rattle.frames.specs.Procedures.{body_end}
use Rattle.nodes.specs.Nodes.{is_designator, is_argument}

-- whether a body begins behind procedure q's at statement row r
unfoldable pub begins_at : List ℕ → ℕ → ℕ → Bool
begins_at p q r = ltb (q + 1) (rows_of p) also eqb (row_at p (q + 1)).a r

-- the procedure whose body has statement row r, where that of the row before is q
unfoldable pub next_procedure : List ℕ → ℕ → ℕ → ℕ
next_procedure p q r = choose (begins_at p q r) (q + 1) q

-- "A body .. ends where the next begins; the first begins at 0": the procedure whose body has statement row r
unfoldable pub procedure_at : List ℕ → ℕ → ℕ
procedure_at p zero = 0
procedure_at p (suc r) = next_procedure p (procedure_at p r) (suc r)

-- "Only calls name kind 8": a node that another statement may name
unfoldable pub is_node : List ℕ → ℕ → Bool
is_node n k = ltb k (rows_of n) also not (is_argument n k)

-- "Targets lie in the same body.": from its start to before its end
unfoldable pub target_kept : ℕ → ℕ → ℕ → Bool
target_kept start end b = leb start b also ltb b end

-- "its arguments are node rows b onward, one kind 8 per parameter (b is 0 without any)"
unfoldable pub arguments_kept : List ℕ → ℕ → ℕ → Bool
arguments_kept n b parameters = choose (eqb parameters 0) (eqb b 0) (all_from (is_argument n) b parameters)

-- "0 assign b to designator a."
unfoldable pub assign_kept : List ℕ → Row → Bool
assign_kept n row = is_designator n row.a also is_node n row.b also eqb row.c 0

-- "1 call procedure a, not 0"
unfoldable pub call_kept : List ℕ → List ℕ → Row → Bool
call_kept n p row =
    leb 1 row.a also ltb row.a (rows_of p) also arguments_kept n row.b (row_at p row.a).b also eqb row.c 0

-- "2 go to b if a is FALSE."
unfoldable pub jump_kept : List ℕ → ℕ → ℕ → Row → Bool
jump_kept n start end row = is_node n row.a also target_kept start end row.b also eqb row.c 0

-- "3 go to b."
unfoldable pub goto_kept : ℕ → ℕ → Row → Bool
goto_kept start end row = eqb row.a 0 also target_kept start end row.b also eqb row.c 0

-- "4 RETURN."
unfoldable pub return_kept : Row → Bool
return_kept row = eqb row.a 0 also eqb row.b 0 also eqb row.c 0

-- "5 read into designator a."
unfoldable pub read_kept : List ℕ → Row → Bool
read_kept n row = is_designator n row.a also eqb row.b 0 also eqb row.c 0

-- "6 write a. 7 HALT(a)."
unfoldable pub value_kept : List ℕ → Row → Bool
value_kept n row = is_node n row.a also eqb row.b 0 also eqb row.c 0

-- by the kind
unfoldable pub form_kept : List ℕ → List ℕ → ℕ → ℕ → ℕ → Row → Bool
form_kept n p start end kind row =
    choose (eqb kind 0) (assign_kept n row)
    (choose (eqb kind 1) (call_kept n p row)
    (choose (eqb kind 2) (jump_kept n start end row)
    (choose (eqb kind 3) (goto_kept start end row)
    (choose (eqb kind 4) (return_kept row)
    (choose (eqb kind 5) (read_kept n row)
    (choose (eqb kind 6) (value_kept n row)
    (choose (eqb kind 7) (value_kept n row) false)))))))

-- "A body's last row is 3, 4 or 7."
unfoldable pub last_kept : ℕ → ℕ → Row → Bool
last_kept end r row =
    choose (eqb (r + 1) end) (choose (eqb row.kind 3) true (choose (eqb row.kind 4) true (eqb row.kind 7))) true

-- statement row r in the body of procedure q
unfoldable pub statement_in : List ℕ → List ℕ → ℕ → ℕ → ℕ → Row → Bool
statement_in n p statements q r row =
    eqb row.zero 0
    also form_kept n p (row_at p q).a (body_end p statements q) row.kind row
    also last_kept (body_end p statements q) r row

unfoldable pub statement_kept : List ℕ → List ℕ → List ℕ → ℕ → Bool
statement_kept n p s r = statement_in n p (rows_of s) (procedure_at p r) r (row_at s r)

-- "8. Is each statement well formed, its rows existing?"
unfoldable pub question8 : List ℕ → List ℕ → List ℕ → Verdict
question8 n p s = lowest_fault (statement_kept n p s) (rows_of s)
