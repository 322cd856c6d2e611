-- Laws of a statement's rules.
use Rattle.std.specs.Prelude.{Option, Some, None}
use mathlib.Core.Path.{◌≡◌, sym, ◌∙◌, ap, fun_ext}
use mathlib.Core.Bool.{Bool, false}
use mathlib.Core.List.{List}
use Prim.Native.Nat.{ℕ, ◌+◌, ◌≤◌, ◌<◌}
use native.Mathlib.Omega.{arith}
use native.Mathlib.Decide.{dec_lt}
use lib.Dec.{eqb}
use lib.ListN.{length, get_or, take, replicate, length-replicate}
use Rattle.image.specs.declared.Row.{Row}
use Rattle.image.specs.Rows.{row_at, rows_of}
use Rattle.image.specs.Faults.{all_from}
use Rattle.image.proofs.Bytes.{row_missing}
use Rattle.image.proofs.Faults.{kept_none, each_all}
use Rattle.frames.specs.Procedures.{first_variable}
use Rattle.frames.proofs.Accepted.{ProceduresKept, procedures_kept}
use Rattle.statements.specs.Statements.{procedure_at}
use Rattle.statements.proofs.Bodies.{InBody, in_body}
use Rattle.owners.specs.declared.Span.{Span}
use Rattle.owners.specs.Owners.{own_below, no_span, span_of, span_in, within}
use Rattle.owners.specs.Owners.{Spans}
use Rattle.owners.proofs.Owning.{span_own}
use Rattle.owners.proofs.Spanning.{spans_known}
use Rattle.places.specs.Places.{Firsts}
use Rattle.relations.specs.Extends.{extends}
use Rattle.rules.specs.Rules.{is_type, assignable, argument_rule, call_rule, rule_by, statement_rule, FirstTable, Ready, RowsFit}

pub no_type : (x : Option ℕ) (r : ℕ) → x ≡ None → is_type x r ≡ false
unfolding is_type
no_type x r e = rw e

pub type_is : (x : Option ℕ) (r : ℕ) {k : ℕ} → x ≡ Some k → is_type x r ≡ eqb k r
unfolding is_type
type_is x r e = rw e

pub no_source : (t : List ℕ) (x y : Option ℕ) → x ≡ None → assignable t x y ≡ false
unfolding assignable
no_source t x y e = rw e

pub no_target : (t : List ℕ) (x y : Option ℕ) {a : ℕ} → x ≡ Some a → y ≡ None → assignable t x y ≡ false
unfolding assignable
no_target t x y e d = rw (e, d)

pub assignable_is : (t : List ℕ) (x y : Option ℕ) {a b : ℕ} → x ≡ Some a → y ≡ Some b → assignable t x y ≡ extends t a b
unfolding assignable
assignable_is t x y e d = rw (e, d)

-- ---- the arguments of a call

-- a procedure that is not there has no parameters, and the table has the first parameter of every other
pub call_is : (t v p n firsts : List ℕ) (type : ℕ → Option ℕ) (own : ℕ → Bool) → FirstTable v p firsts → (row called : Row) (first : ℕ)
    → called ≡ row_at p row.a → first ≡ get_or firsts row.a 0
    → all_from (λ j. argument_rule t v n type own (row.b + j) (first + j)) 0 called.b ≡ call_rule t v p n type own row
unfolding call_rule
call_is t v p n firsts type own table row called first this_row held = rw (← this_row) (go (dec_lt row.a (rows_of p)))
  where
    no_rows : (f g : ℕ → Bool) → all_from f 0 0 ≡ all_from g 0 0
    no_rows f g = each_all f 0 0 (kept_none f 0) ∙ sym (each_all g 0 0 (kept_none g 0))

    go : Dec (row.a < rows_of p)
        → all_from (λ j. argument_rule t v n type own (row.b + j) (first + j)) 0 called.b
        ≡ all_from (λ j. argument_rule t v n type own (row.b + j) (first_variable v p row.a + j)) 0 called.b
    go (yes l) = rw (held ∙ table.first row.a (omega arith))
    go (no l) =
        let none : called.b ≡ 0 = ap (λ (r : Row). r.b) (this_row ∙ row_missing p row.a (omega arith)) in
        rw none (no_rows _ _)

-- ---- a statement in its body

-- a procedure's variables are rows
first_few : (v p s : List ℕ) → ProceduresKept v p s → (q : ℕ) → q ≤ rows_of p → first_variable v p q ≤ rows_of v
first_few v p s kept q h = go (dec_lt q (rows_of p))
  where
    go : Dec (q < rows_of p) → first_variable v p q ≤ rows_of v
    go (yes l) = let room = (kept.row q l).room in omega arith
    go (no l) =
        let all = kept.claimed in
        let last : q ≡ rows_of p = omega arith in
        rw last (omega arith)

module _ (t v p n s : List ℕ) (spans : List Span) (firsts : List ℕ) (ready : Ready v p n s spans firsts) (type : ℕ → Option ℕ)
    (r q : ℕ) (inside : r < rows_of s) (this_procedure : q ≡ procedure_at p r) where
  kept : ProceduresKept v p s
  kept = procedures_kept v p s ready.procedures

  body : InBody p s q r
  body = rw this_procedure (in_body v p s kept ready.some_procedure r inside)

  own_same : (first next : ℕ) → first ≡ get_or firsts q 0 → next ≡ get_or firsts (q + 1) 0
      → (λ k. within first next (span_in spans k)) ≡ own_below v p n (procedure_at p r)
  own_same first next low high =
      let there = body.procedure in
      let start = low ∙ ready.table.first q (omega arith) in
      let end = high ∙ ready.table.first (q + 1) (omega arith) in
      rw (start, end, ← this_procedure)
      (fun_ext (λ k. ap (within (first_variable v p q) (first_variable v p (q + 1))) (ready.known k)
      ∙ span_own v p q ready.few_variables (first_few v p s kept q (omega arith)) (first_few v p s kept (q + 1) (omega arith)) n k))

  pub statement_is : (row : Row) → row ≡ row_at s r → (first next : ℕ) → first ≡ get_or firsts q 0 → next ≡ get_or firsts (q + 1) 0
      → rule_by t v p n type (λ k. within first next (span_in spans k)) row.kind row ≡ statement_rule t v p n s type r
  unfolding statement_rule
  statement_is row this_row first next low high =
      ap (λ (own : ℕ → Bool). rule_by t v p n type own row.kind row) (own_same first next low high)
      ∙ ap (λ (x : Row). rule_by t v p n type (own_below v p n (procedure_at p r)) x.kind x) this_row

-- ---- the tables

pub empty : (n : ℕ) (x : Span) → length (replicate n x) ≡ n
empty n x = length-replicate n x

pub ready : (v p n s : List ℕ) (old spans : List Span) (old_firsts firsts : List ℕ) (nodes : ℕ) → RowsFit v p n s
    → nodes ≡ rows_of n → Spans (span_of v n) (rows_of n) old spans → rows_of n ≤ length spans
    → Firsts v p old_firsts firsts → Ready v p n s (take nodes spans) firsts
ready v p n s old spans old_firsts firsts nodes fit e table room first = record {
  few_variables = fit.few_variables;
  few_statements = fit.few_statements;
  some_procedure = fit.some_procedure;
  procedures = fit.procedures;
  table = record { first = first.first };
  known = rw e (spans_known v n old spans table room);
}
