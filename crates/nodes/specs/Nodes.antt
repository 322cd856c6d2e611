-- Question 7: the form of a node.
use Rattle.image.specs.Faults.{Verdict, lowest_fault}
use Rattle.std.specs.Prelude.{ℕ, Bool, true, false, not, List, ltb, leb, eqb}
use Rattle.prelude.specs.Choice.{choose, ◌also◌}
use Rattle.image.specs.declared.Row.{Row}
use Rattle.image.specs.Rows.{row_at, rows_of}
use Rattle.image.specs.Versions.{scalar_rows, monadics}

-- "Kinds 1 to 4 are designators"
unfoldable pub is_designator : List ℕ → ℕ → Bool
is_designator n k = leb 1 (row_at n k).kind also leb (row_at n k).kind 4

-- "8 argument"
unfoldable pub is_argument : List ℕ → ℕ → Bool
is_argument n k = eqb (row_at n k).kind 8

-- "Children have lower rows and are not of kind 8."
unfoldable pub child_kept : List ℕ → ℕ → ℕ → Bool
child_kept n r k = ltb k r also not (is_argument n k)

-- "a of kinds 2 and 3 is one": a designator in a lower row
unfoldable pub designator_kept : List ℕ → ℕ → ℕ → Bool
designator_kept n r k = ltb k r also is_designator n k

-- "0 constant: a type (0 to 2); .. 0 or 1 for BOOLEAN."
unfoldable pub constant_kept : ℕ → Row → Bool
constant_kept version row =
    ltb row.a (scalar_rows version) also choose (eqb row.a 0) (eqb row.b 0 also leb row.c 1) true

-- "1 variable a."
unfoldable pub variable_kept : ℕ → Row → Bool
variable_kept variables row = ltb row.a variables also eqb row.b 0 also eqb row.c 0

-- "2 field b .. of a."
unfoldable pub field_kept : List ℕ → ℕ → Row → Bool
field_kept n r row = designator_kept n r row.a also eqb row.c 0

-- "3 element of a at b."
unfoldable pub element_kept : List ℕ → ℕ → Row → Bool
element_kept n r row = designator_kept n r row.a also child_kept n r row.b also eqb row.c 0

-- "4 guard: variable a, type b."; "7 type test: variable a, type b."
unfoldable pub guard_kept : ℕ → ℕ → Row → Bool
guard_kept types variables row = ltb row.a variables also ltb row.b types also eqb row.c 0

-- "5 dyadic a, b, operator c: 1 +, .. 16 range."
unfoldable pub dyadic_kept : List ℕ → ℕ → Row → Bool
dyadic_kept n r row = child_kept n r row.a also child_kept n r row.b also leb 1 row.c also leb row.c 16

-- "6 monadic a, operator c: 1 -, 2 ~."
unfoldable pub monadic_kept : ℕ → List ℕ → ℕ → Row → Bool
monadic_kept version n r row =
    child_kept n r row.a also eqb row.b 0 also leb 1 row.c also leb row.c (monadics version)

-- "8 argument holding a"
unfoldable pub argument_kept : List ℕ → ℕ → Row → Bool
argument_kept n r row = child_kept n r row.a also eqb row.b 0 also eqb row.c 0

-- by the kind
unfoldable pub form_kept : ℕ → ℕ → ℕ → List ℕ → ℕ → ℕ → Row → Bool
form_kept version types variables n r kind row =
    choose (eqb kind 0) (constant_kept version row)
    (choose (eqb kind 1) (variable_kept variables row)
    (choose (eqb kind 2) (field_kept n r row)
    (choose (eqb kind 3) (element_kept n r row)
    (choose (eqb kind 4) (guard_kept types variables row)
    (choose (eqb kind 5) (dyadic_kept n r row)
    (choose (eqb kind 6) (monadic_kept version n r row)
    (choose (eqb kind 7) (guard_kept types variables row)
    (choose (eqb kind 8) (argument_kept n r row) false))))))))

unfoldable pub node_kept : ℕ → ℕ → ℕ → List ℕ → ℕ → Bool
node_kept version types variables n r =
    eqb (row_at n r).zero 0 also form_kept version types variables n r (row_at n r).kind (row_at n r)

-- "7. Is each node well formed, its rows existing?"
unfoldable pub question7 : ℕ → List ℕ → List ℕ → List ℕ → Verdict
question7 version t v n = lowest_fault (node_kept version (rows_of t) (rows_of v) n) (rows_of n)
