-- What question 8 says of an accepted statement row.
use Rattle.std.specs.Prelude.{Ok}
use mathlib.Core.Path.{◌≡◌, sym, ◌∙◌, ap}
use mathlib.Core.Bool.{true}
use mathlib.Core.List.{List}
use mathlib.Core.Logic.{⊎_elim}
use Prim.Native.Nat.{ℕ, ◌+◌, ◌≤◌, ◌<◌}
use native.Mathlib.Omega.{arith}
use borrow.Author.Tests.{ltb-true, leb-true, eqb-true, eq-eqb, not-true}
use lib.Dec.{eqb}
use Rattle.prelude.specs.Choice.{choose}
use Rattle.prelude.proofs.Choice.{choose_yes, choose_cases, also_true, clash}
use Rattle.image.specs.declared.Row.{Row}
use Rattle.image.specs.Rows.{row_at, rows_of}
use Rattle.image.specs.Faults.{KeptIn}
use Rattle.image.proofs.Faults.{all_each, verdict_kept}
use Rattle.frames.specs.Procedures.{body_end}
use Rattle.frames.proofs.Accepted.{ProceduresKept}
use Rattle.nodes.specs.Nodes.{is_argument}
use Rattle.nodes.proofs.Accepted.{Plain, Designator, designator_is, argument_not}
use Rattle.statements.specs.Statements.{procedure_at, is_node, target_kept, arguments_kept, assign_kept, call_kept}
use Rattle.statements.specs.Statements.{jump_kept, goto_kept, return_kept, read_kept, value_kept, form_kept, last_kept}
use Rattle.statements.specs.Statements.{statement_in, statement_kept, question8}
use Rattle.statements.proofs.Bodies.{InBody, in_body}

-- ---- a row of each kind

-- a target, from the start to before the end of procedure q's body
pub record Target (p s : List ℕ) (q b : ℕ) : Type 0 where
  pub start : (row_at p q).a ≤ b
  pub end : b < body_end p (rows_of s) q

pub record AssignRow (n : List ℕ) (row : Row) : Type 0 where
  pub target : Designator n row.a
  pub source : Plain n row.b
  pub unused_c : row.c ≡ 0

-- the call of a procedure, with an argument for each of its parameters
pub record CallRow (n p : List ℕ) (row : Row) : Type 0 where
  pub procedure : row.a < rows_of p
  pub other : 1 ≤ row.a
  pub arguments : KeptIn (is_argument n) row.b (row.b + (row_at p row.a).b)
  pub none : (row_at p row.a).b ≡ 0 → row.b ≡ 0
  pub unused_c : row.c ≡ 0

pub record JumpRow (n p s : List ℕ) (q : ℕ) (row : Row) : Type 0 where
  pub condition : Plain n row.a
  pub target : Target p s q row.b
  pub unused_c : row.c ≡ 0

pub record GotoRow (p s : List ℕ) (q : ℕ) (row : Row) : Type 0 where
  pub unused_a : row.a ≡ 0
  pub target : Target p s q row.b
  pub unused_c : row.c ≡ 0

pub record ReturnRow (row : Row) : Type 0 where
  pub unused_a : row.a ≡ 0
  pub unused_b : row.b ≡ 0
  pub unused_c : row.c ≡ 0

pub record ReadRow (n : List ℕ) (row : Row) : Type 0 where
  pub target : Designator n row.a
  pub unused_b : row.b ≡ 0
  pub unused_c : row.c ≡ 0

-- a write or a HALT
pub record ValueRow (n : List ℕ) (row : Row) : Type 0 where
  pub value : Plain n row.a
  pub unused_b : row.b ≡ 0
  pub unused_c : row.c ≡ 0

-- an accepted statement row: its zero byte, its kind, and what the kind asks for
pub data StatementRow (n p s : List ℕ) (r : ℕ) : Type 0 where
  is_assign : (row_at s r).zero ≡ 0 → (row_at s r).kind ≡ 0 → AssignRow n (row_at s r) → StatementRow n p s r
  is_call : (row_at s r).zero ≡ 0 → (row_at s r).kind ≡ 1 → CallRow n p (row_at s r) → StatementRow n p s r
  is_jump : (row_at s r).zero ≡ 0 → (row_at s r).kind ≡ 2 → JumpRow n p s (procedure_at p r) (row_at s r)
      → StatementRow n p s r
  is_goto : (row_at s r).zero ≡ 0 → (row_at s r).kind ≡ 3 → GotoRow p s (procedure_at p r) (row_at s r)
      → StatementRow n p s r
  is_return : (row_at s r).zero ≡ 0 → (row_at s r).kind ≡ 4 → ReturnRow (row_at s r) → StatementRow n p s r
  is_read : (row_at s r).zero ≡ 0 → (row_at s r).kind ≡ 5 → ReadRow n (row_at s r) → StatementRow n p s r
  is_write : (row_at s r).zero ≡ 0 → (row_at s r).kind ≡ 6 → ValueRow n (row_at s r) → StatementRow n p s r
  is_halt : (row_at s r).zero ≡ 0 → (row_at s r).kind ≡ 7 → ValueRow n (row_at s r) → StatementRow n p s r

-- a row that may be a body's last
pub data Ends (row : Row) : Type 0 where
  by_goto : row.kind ≡ 3 → Ends row
  by_return : row.kind ≡ 4 → Ends row
  by_halt : row.kind ≡ 7 → Ends row

-- ---- what the rules say

plain_is : (n : List ℕ) (k : ℕ) → is_node n k ≡ true → Plain n k
unfolding is_node
plain_is n k e =
    let (within, other) = also_true _ _ e in
    record { within = ltb-true _ _ within; plain = argument_not n k (not-true _ other) }

target_is : (p s : List ℕ) (q b : ℕ) → target_kept (row_at p q).a (body_end p (rows_of s) q) b ≡ true → Target p s q b
unfolding target_kept
target_is p s q b e = let (low, high) = also_true _ _ e in record { start = leb-true _ _ low; end = ltb-true _ _ high }

assign_row : (n : List ℕ) (row : Row) → assign_kept n row ≡ true → AssignRow n row
unfolding assign_kept
assign_row n row e =
    let (a, e₁) = also_true _ _ e in
    let (b, c) = also_true _ _ e₁ in
    record { target = designator_is n _ a; source = plain_is n _ b; unused_c = eqb-true _ _ c }

arguments_none : (n : List ℕ) (b count : ℕ) → arguments_kept n b count ≡ true → count ≡ 0 → b ≡ 0
unfolding arguments_kept
arguments_none n b count e z = eqb-true _ _ (sym (choose_yes _ _ _ (eq-eqb count 0 z)) ∙ e)

arguments_all : (n : List ℕ) (b count : ℕ) → arguments_kept n b count ≡ true → KeptIn (is_argument n) b (b + count)
unfolding arguments_kept
arguments_all n b count e =
    ⊎_elim (λ k. let z = eqb-true count 0 k.0 in record { each = λ j low high. absurd (omega arith) })
    (λ k. all_each (is_argument n) count b k.1)
    (choose_cases (eqb count 0) e)

call_row : (n p : List ℕ) (row : Row) → call_kept n p row ≡ true → CallRow n p row
unfolding call_kept
call_row n p row e =
    let (least, e₁) = also_true _ _ e in
    let (a, e₂) = also_true _ _ e₁ in
    let (b, c) = also_true _ _ e₂ in
    record {
      procedure = ltb-true _ _ a;
      other = leb-true _ _ least;
      arguments = arguments_all n _ _ b;
      none = arguments_none n _ _ b;
      unused_c = eqb-true _ _ c;
    }

jump_row : (n p s : List ℕ) (q : ℕ) (row : Row) → jump_kept n (row_at p q).a (body_end p (rows_of s) q) row ≡ true
    → JumpRow n p s q row
unfolding jump_kept
jump_row n p s q row e =
    let (a, e₁) = also_true _ _ e in
    let (b, c) = also_true _ _ e₁ in
    record { condition = plain_is n _ a; target = target_is p s q _ b; unused_c = eqb-true _ _ c }

goto_row : (p s : List ℕ) (q : ℕ) (row : Row) → goto_kept (row_at p q).a (body_end p (rows_of s) q) row ≡ true
    → GotoRow p s q row
unfolding goto_kept
goto_row p s q row e =
    let (a, e₁) = also_true _ _ e in
    let (b, c) = also_true _ _ e₁ in
    record { unused_a = eqb-true _ _ a; target = target_is p s q _ b; unused_c = eqb-true _ _ c }

return_row : (row : Row) → return_kept row ≡ true → ReturnRow row
unfolding return_kept
return_row row e =
    let (a, e₁) = also_true _ _ e in
    let (b, c) = also_true _ _ e₁ in
    record { unused_a = eqb-true _ _ a; unused_b = eqb-true _ _ b; unused_c = eqb-true _ _ c }

read_row : (n : List ℕ) (row : Row) → read_kept n row ≡ true → ReadRow n row
unfolding read_kept
read_row n row e =
    let (a, e₁) = also_true _ _ e in
    let (b, c) = also_true _ _ e₁ in
    record { target = designator_is n _ a; unused_b = eqb-true _ _ b; unused_c = eqb-true _ _ c }

value_row : (n : List ℕ) (row : Row) → value_kept n row ≡ true → ValueRow n row
unfolding value_kept
value_row n row e =
    let (a, e₁) = also_true _ _ e in
    let (b, c) = also_true _ _ e₁ in
    record { value = plain_is n _ a; unused_b = eqb-true _ _ b; unused_c = eqb-true _ _ c }

statement_row : (n p s : List ℕ) (r : ℕ) → statement_kept n p s r ≡ true → StatementRow n p s r
unfolding statement_kept statement_in form_kept
statement_row n p s r e =
    let (zero, e₁) = also_true _ _ e in
    let (form, last) = also_true _ _ e₁ in
    let q = procedure_at p r in
    let row = row_at s r in
    let z : (row_at s r).zero ≡ 0 = eqb-true _ _ zero in
    ⊎_elim (λ k. is_assign z (eqb-true _ _ k.0) (assign_row n row k.1))
    (λ o. ⊎_elim (λ k. is_call z (eqb-true _ _ k.0) (call_row n p row k.1))
    (λ o. ⊎_elim (λ k. is_jump z (eqb-true _ _ k.0) (jump_row n p s q row k.1))
    (λ o. ⊎_elim (λ k. is_goto z (eqb-true _ _ k.0) (goto_row p s q row k.1))
    (λ o. ⊎_elim (λ k. is_return z (eqb-true _ _ k.0) (return_row row k.1))
    (λ o. ⊎_elim (λ k. is_read z (eqb-true _ _ k.0) (read_row n row k.1))
    (λ o. ⊎_elim (λ k. is_write z (eqb-true _ _ k.0) (value_row n row k.1))
    (λ o. ⊎_elim (λ k. is_halt z (eqb-true _ _ k.0) (value_row n row k.1))
    (λ o. clash (sym o.1))
    (choose_cases (eqb row.kind 7) o.1))
    (choose_cases (eqb row.kind 6) o.1))
    (choose_cases (eqb row.kind 5) o.1))
    (choose_cases (eqb row.kind 4) o.1))
    (choose_cases (eqb row.kind 3) o.1))
    (choose_cases (eqb row.kind 2) o.1))
    (choose_cases (eqb row.kind 1) o.1))
    (choose_cases (eqb row.kind 0) form)

last_row : (end r : ℕ) (row : Row) → last_kept end r row ≡ true → r + 1 ≡ end → Ends row
unfolding last_kept
last_row end r row e at =
    ⊎_elim (λ k. by_goto (eqb-true _ _ k.0))
    (λ o. ⊎_elim (λ k. by_return (eqb-true _ _ k.0))
    (λ o. by_halt (eqb-true _ _ o.1))
    (choose_cases (eqb row.kind 4) o.1))
    (choose_cases (eqb row.kind 3) (sym (choose_yes _ _ _ (eq-eqb (r + 1) end at)) ∙ e))

ends_row : (n p s : List ℕ) (r : ℕ) → statement_kept n p s r ≡ true → r + 1 ≡ body_end p (rows_of s) (procedure_at p r)
    → Ends (row_at s r)
unfolding statement_kept statement_in
ends_row n p s r e =
    let (zero, e₁) = also_true _ _ e in
    let (form, last) = also_true _ _ e₁ in
    last_row _ r (row_at s r) last

-- ---- the whole table

module _ (n p s : List ℕ) (e : question8 n p s ≡ Ok tt) (r : ℕ) (h : r < rows_of s) where
  kept : statement_kept n p s r ≡ true
  unfolding question8
  kept = verdict_kept (statement_kept n p s) (rows_of s) e r h

  pub statements_kept : StatementRow n p s r
  statements_kept = statement_row n p s r kept

  -- a body's last row
  pub last_ends : r + 1 ≡ body_end p (rows_of s) (procedure_at p r) → Ends (row_at s r)
  last_ends = ends_row n p s r kept

  -- where the kind is known
  form : (k : ℕ) → (row_at s r).kind ≡ k
      → form_kept n p (row_at p (procedure_at p r)).a (body_end p (rows_of s) (procedure_at p r)) k (row_at s r) ≡ true
  unfolding statement_kept statement_in
  form k kind =
      let q = procedure_at p r in
      sym (ap (λ j. form_kept n p (row_at p q).a (body_end p (rows_of s) q) j (row_at s r)) kind)
      ∙ (also_true _ _ (also_true _ _ kept).1).0

  pub assign_is : (row_at s r).kind ≡ 0 → AssignRow n (row_at s r)
  unfolding form_kept choose
  assign_is k = assign_row n (row_at s r) (form 0 k)

  pub call_is : (row_at s r).kind ≡ 1 → CallRow n p (row_at s r)
  unfolding form_kept choose
  call_is k = call_row n p (row_at s r) (form 1 k)

  pub jump_is : (row_at s r).kind ≡ 2 → JumpRow n p s (procedure_at p r) (row_at s r)
  unfolding form_kept choose
  jump_is k = jump_row n p s (procedure_at p r) (row_at s r) (form 2 k)

  pub goto_is : (row_at s r).kind ≡ 3 → GotoRow p s (procedure_at p r) (row_at s r)
  unfolding form_kept choose
  goto_is k = goto_row p s (procedure_at p r) (row_at s r) (form 3 k)

  pub return_is : (row_at s r).kind ≡ 4 → ReturnRow (row_at s r)
  unfolding form_kept choose
  return_is k = return_row (row_at s r) (form 4 k)

  pub read_is : (row_at s r).kind ≡ 5 → ReadRow n (row_at s r)
  unfolding form_kept choose
  read_is k = read_row n (row_at s r) (form 5 k)

  pub write_is : (row_at s r).kind ≡ 6 → ValueRow n (row_at s r)
  unfolding form_kept choose
  write_is k = value_row n (row_at s r) (form 6 k)

  pub halt_is : (row_at s r).kind ≡ 7 → ValueRow n (row_at s r)
  unfolding form_kept choose
  halt_is k = value_row n (row_at s r) (form 7 k)

-- ---- with the bodies of question 6

module _ (v p s : List ℕ) (kept : ProceduresKept v p s) (some : 1 ≤ rows_of p) (r : ℕ) (h : r < rows_of s) where
  -- a target lies in the same body
  pub target_in : (b : ℕ) → Target p s (procedure_at p r) b → InBody p s (procedure_at p r) b
  target_in b t = record { procedure = (in_body v p s kept some r h).procedure; start = t.start; end = t.end }

  -- and so does the row behind one that ends no body
  pub behind_in : (n : List ℕ) → question8 n p s ≡ Ok tt → (Ends (row_at s r) → ⊥) → InBody p s (procedure_at p r) (r + 1)
  behind_in n e other =
      let b = in_body v p s kept some r h in
      let low = b.start in
      let high = b.end in
      let more : (r + 1 ≡ body_end p (rows_of s) (procedure_at p r) → ⊥) = λ at. other (last_ends n p s e r h at) in
      record { procedure = b.procedure; start = omega arith; end = omega arith }

-- a row of another kind ends no body
pub no_end : (row : Row) → (row.kind ≡ 3 → ⊥) → (row.kind ≡ 4 → ⊥) → (row.kind ≡ 7 → ⊥) → Ends row → ⊥
no_end row g t h (by_goto e) = g e
no_end row g t h (by_return e) = t e
no_end row g t h (by_halt e) = h e
