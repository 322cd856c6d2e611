-- Question 11: the type and variable rules of a statement.
use Rattle.std.specs.Prelude.{Option, Some, None, Ok, ℕ, ◌+◌, ◌≤◌, ◌≡◌, Bool, true, false, List, eqb, get_or}
use Rattle.image.specs.Faults.{Verdict, all_from, lowest_fault}
use Rattle.prelude.specs.Choice.{choose, ◌also◌}
use Rattle.image.specs.declared.Row.{Row}
use Rattle.image.specs.Rows.{row_at, rows_of}
use Rattle.values.specs.Values.{BOOLEAN, INTEGER}
use Rattle.relations.specs.Extends.{extends}
use Rattle.frames.specs.Procedures.{first_variable, question6}
use Rattle.nodes.specs.Nodes.{is_designator}
use Rattle.statements.specs.Statements.{procedure_at}
use Rattle.typing.specs.Typing.{type_of, type_in}
use Rattle.owners.specs.declared.Span.{Span}
use Rattle.owners.specs.Owners.{own_below, span_of, span_in, within}
use Rattle.rules.specs.declared.Body.{Body}

-- a node's type is row r
unfoldable pub is_type : Option ℕ → ℕ → Bool
is_type None r = false
is_type (Some x) r = eqb x r

-- "Assigning or passing by value: same type, or source record extends target record." A type extends itself, and only
-- a record extends another.
unfoldable pub assignable : List ℕ → Option ℕ → Option ℕ → Bool
assignable t None target = false
assignable t (Some source) None = false
assignable t (Some source) (Some target) = extends t source target

-- "0 assign b to designator a."; "Variables are global or the procedure's own.", as `own` says of a node and those
-- below it
unfoldable pub assign_rule : List ℕ → (ℕ → Option ℕ) → (ℕ → Bool) → Row → Bool
assign_rule t type own row = assignable t (type row.b) (type row.a) also own row.a also own row.b

-- "A VAR argument is a designator": argument row k, for a parameter of a kind
unfoldable pub form_rule : List ℕ → ℕ → ℕ → Bool
form_rule n kind k = choose (eqb kind 3) (is_designator n (row_at n k).a) true

-- ".. of the same type or, for records, an extension.": argument row k, parameter row a
unfoldable pub argument_rule : List ℕ → List ℕ → List ℕ → (ℕ → Option ℕ) → (ℕ → Bool) → ℕ → ℕ → Bool
argument_rule t v n type own k a =
    assignable t (type k) (Some (row_at v a).a)
    also form_rule n (row_at v a).kind k
    also own k

-- "1 call procedure a, not 0; its arguments are node rows b onward"
unfoldable pub call_rule : List ℕ → List ℕ → List ℕ → List ℕ → (ℕ → Option ℕ) → (ℕ → Bool) → Row → Bool
call_rule t v p n type own row =
    all_from (λ j. argument_rule t v n type own (row.b + j) (first_variable v p row.a + j)) 0 (row_at p row.a).b

-- "Condition BOOLEAN; read and write INTEGER": the node's type is row r
unfoldable pub type_rule : (ℕ → Option ℕ) → (ℕ → Bool) → Row → ℕ → Bool
type_rule type own row r = is_type (type row.a) r also own row.a

-- "HALT an INTEGER node of kind 0"
unfoldable pub halt_rule : List ℕ → (ℕ → Option ℕ) → (ℕ → Bool) → Row → Bool
halt_rule n type own row = type_rule type own row INTEGER also eqb (row_at n row.a).kind 0

-- by the kind; "3 go to b. 4 RETURN." have none
unfoldable pub rule_by : List ℕ → List ℕ → List ℕ → List ℕ → (ℕ → Option ℕ) → (ℕ → Bool) → ℕ → Row → Bool
rule_by t v p n type own kind row =
    choose (eqb kind 0) (assign_rule t type own row)
    (choose (eqb kind 1) (call_rule t v p n type own row)
    (choose (eqb kind 2) (type_rule type own row BOOLEAN)
    (choose (eqb kind 5) (type_rule type own row INTEGER)
    (choose (eqb kind 6) (type_rule type own row INTEGER)
    (choose (eqb kind 7) (halt_rule n type own row) true)))))

-- statement row r, in the body of its procedure
unfoldable pub statement_rule : List ℕ → List ℕ → List ℕ → List ℕ → List ℕ → (ℕ → Option ℕ) → ℕ → Bool
statement_rule t v p n s type r =
    rule_by t v p n type (own_below v p n (procedure_at p r)) (row_at s r).kind (row_at s r)

-- the same question of any types
unfoldable pub rules_by : List ℕ → List ℕ → List ℕ → List ℕ → List ℕ → (ℕ → Option ℕ) → Verdict
rules_by t v p n s type = lowest_fault (statement_rule t v p n s type) (rows_of s)

-- "11. Does each statement keep its type and variable rules?"
unfoldable pub question11 : List ℕ → List ℕ → List ℕ → List ℕ → List ℕ → List ℕ → Verdict
question11 t f v p n s = rules_by t v p n s (type_of t f v n)

-- ---- what the tables hold that the question reads

-- each procedure's first variable, and behind the last procedure where its variables end
pub record FirstTable (v p firsts : List ℕ) : Type 0 where
  pub first : (q : ℕ) → q ≤ rows_of p → get_or firsts q 0 ≡ first_variable v p q

-- accepted procedures, their first variables, and the spans of all nodes
pub record Ready (v p n s : List ℕ) (spans : List Span) (firsts : List ℕ) : Type 0 where
  pub few_variables : rows_of v ≤ 256
  pub few_statements : rows_of s ≤ 1024
  pub some_procedure : 1 ≤ rows_of p
  pub procedures : question6 v p s ≡ Ok tt
  pub table : FirstTable v p firsts
  pub known : (k : ℕ) → span_in spans k ≡ span_of v n k

-- tables whose counts are in range, with accepted procedures
pub record RowsFit (v p n s : List ℕ) : Type 0 where
  pub few_variables : rows_of v ≤ 256
  pub some_procedure : 1 ≤ rows_of p
  pub few_procedures : rows_of p ≤ 64
  pub few_nodes : rows_of n ≤ 2048
  pub few_statements : rows_of s ≤ 1024
  pub procedures : question6 v p s ≡ Ok tt

-- ---- a body

-- the types that its table of types gives
abbrev pub types_in : Body → ℕ → Option ℕ
types_in body = type_in body.types.now

-- node k uses global variables and the body's own alone
abbrev pub owned_in : Body → ℕ → Bool
owned_in body k = within body.first body.next (span_in body.spans.now k)
