-- Question 5: the variables.
use Rattle.image.specs.Faults.{Verdict, all_from, lowest_fault}
use Rattle.std.specs.Prelude.{ℕ, zero, suc, ◌+◌, Bool, true, List, ltb, leb, eqb}
use Rattle.prelude.specs.Choice.{choose, ◌also◌}
use Rattle.image.specs.declared.Row.{Row}
use Rattle.image.specs.Rows.{row_at, rows_of}

-- "Kind 0 global, 1 local, 2 value parameter, 3 VAR parameter; a the type."
unfoldable pub is_global : List ℕ → ℕ → Bool
is_global v k = eqb (row_at v k).kind 0

-- a kind from `low` to `high`
unfoldable pub kind_within : List ℕ → ℕ → ℕ → ℕ → Bool
kind_within v low high k = leb low (row_at v k).kind also leb (row_at v k).kind high

abbrev pub is_local : List ℕ → ℕ → Bool
is_local v = kind_within v 1 1

abbrev pub is_parameter : List ℕ → ℕ → Bool
is_parameter v = kind_within v 2 3

-- "Globals come first.": of n rows from k on, the first that is no global
unfoldable pub globals_from : List ℕ → ℕ → ℕ → ℕ
globals_from v k zero = k
globals_from v k (suc n) = choose (is_global v k) (globals_from v (k + 1) n) k

-- how many globals there are
unfoldable pub globals_of : List ℕ → ℕ
globals_of v = globals_from v 0 (rows_of v)

-- a variable row keeps its form, its type row existing, where `lower` says that every lower row is a global:
-- "no global after another kind"
unfoldable pub form_kept : Row → ℕ → Bool → Bool
form_kept row types lower =
    leb row.kind 3
    also eqb row.zero 0
    also ltb row.a types
    also eqb row.b 0
    also eqb row.c 0
    also choose (eqb row.kind 0) lower true

unfoldable pub variable_kept : List ℕ → List ℕ → ℕ → Bool
variable_kept t v r = form_kept (row_at v r) (rows_of t) (all_from (is_global v) 0 r)

-- "5. Does each variable row keep its form, type row existing, no global after another kind?"
unfoldable pub question5 : List ℕ → List ℕ → Verdict
question5 t v = lowest_fault (variable_kept t v) (rows_of v)
