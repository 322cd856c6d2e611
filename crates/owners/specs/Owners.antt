-- Whose variables a node and the nodes below it use.
use Rattle.std.specs.Prelude.{ℕ, ◌+◌, ◌≤◌, ◌<◌, ◌≡◌, Bool, true, List, ltb, leb, eqb, length, get_or}
use Rattle.prelude.specs.Choice.{choose, ◌also◌}
use Rattle.prelude.specs.Rec.{rec}
use Rattle.image.specs.declared.Row.{Row}
use Rattle.image.specs.Rows.{row_at, rows_of}
use Rattle.frames.specs.Variables.{is_global}
use Rattle.frames.specs.Procedures.{first_variable}
use Rattle.owners.specs.declared.Span.{Span}

-- what a node gives with the nodes below it: `one a` where it names variable a ("1 variable a", "4 guard: variable a",
-- "7 type test: variable a"), what its children give, `both` of them together, and `none` where it has neither
unfoldable pub gather : {X : Type 0} → X → (ℕ → X) → (X → X → X) → (ℕ → X) → ℕ → Row → X
gather none one both child kind row =
    choose (eqb kind 1) (one row.a)
    (choose (eqb kind 2) (child row.a)
    (choose (eqb kind 3) (both (child row.a) (child row.b))
    (choose (eqb kind 4) (one row.a)
    (choose (eqb kind 5) (both (child row.a) (child row.b))
    (choose (eqb kind 6) (child row.a)
    (choose (eqb kind 7) (one row.a)
    (choose (eqb kind 8) (child row.a) none)))))))

-- of node row r
unfoldable pub gathered : {X : Type 0} → X → (ℕ → X) → (X → X → X) → List ℕ → ℕ → X
gathered none one both n = rec none (λ child r. gather none one both child (row_at n r).kind (row_at n r))

-- "Variables are global or the procedure's own."
unfoldable pub own_variable : List ℕ → List ℕ → ℕ → ℕ → Bool
own_variable v p q a =
    choose (is_global v a) true (leb (first_variable v p q) a also ltb a (first_variable v p (q + 1)))

-- the same of each variable that node row r and the nodes below it name
unfoldable pub own_below : List ℕ → List ℕ → List ℕ → ℕ → ℕ → Bool
own_below v p n q = gathered true (own_variable v p q) ◌also◌ n

-- ---- the least and the last of them, for all procedures at once

abbrev pub no_span : Span
no_span = record { least = 65535; past = 0 }

-- a global is anybody's; a variable that is not there is nobody's
unfoldable pub variable_span : List ℕ → ℕ → Span
variable_span v a =
    choose (is_global v a) no_span
    (choose (ltb a (rows_of v)) (record { least = a; past = a + 1 }) (record { least = 0; past = 65535 }))

unfoldable pub join_span : Span → Span → Span
join_span x y = record {
  least = choose (leb x.least y.least) x.least y.least;
  past = choose (leb x.past y.past) y.past x.past;
}

-- the variables that are no globals and that node row r and the nodes below it name lie in this span
unfoldable pub span_of : List ℕ → List ℕ → ℕ → Span
span_of v n = gathered no_span (variable_span v) join_span n

-- the span lies among the variables from `first` on and below `next`
unfoldable pub within : ℕ → ℕ → Span → Bool
within first next span = leb first span.least also leb span.past next

-- ---- the table of spans: one a node

unfoldable pub span_in : List Span → ℕ → Span
span_in spans k = get_or spans k no_span

-- the table holds the spans of the first m nodes; every other cell is as it was
pub record Spans (span : ℕ → Span) (m : ℕ) (old spans : List Span) : Type 0 where
  pub cells : length spans ≡ length old
  pub holds : (k : ℕ) → k < m → span_in spans k ≡ span k
  pub rest : (k : ℕ) → m ≤ k → span_in spans k ≡ span_in old k
