-- What questions 5 and 6 say of accepted rows.
use Rattle.std.specs.Prelude.{Ok}
use mathlib.Core.Path.{◌≡◌, sym, ◌∙◌}
use mathlib.Core.Bool.{true}
use mathlib.Core.List.{List}
use Prim.Native.Nat.{ℕ, ◌+◌, ◌≤◌, ◌<◌}
use native.Mathlib.Omega.{arith}
use borrow.Author.Tests.{ltb-true, leb-true, eqb-true, eq-eqb}
use Rattle.prelude.proofs.Choice.{choose_yes, also_true}
use Rattle.image.specs.declared.Row.{Row}
use Rattle.image.specs.Rows.{row_at, rows_of}
use Rattle.image.specs.Faults.{KeptIn}
use Rattle.image.proofs.Faults.{all_each, verdict_kept, up_to_kept}
use Rattle.frames.specs.Variables.{is_global, is_local, is_parameter, form_kept, variable_kept, question5}
use Rattle.frames.specs.Procedures.{claimed_by, first_variable, body_end, module_kept, body_kept, own_kept}
use Rattle.frames.specs.Procedures.{procedure_kept, question6}

-- ---- variables

-- an accepted variable row
pub record VariableRow (t v : List ℕ) (r : ℕ) : Type 0 where
  pub kind : (row_at v r).kind ≤ 3
  pub typed : (row_at v r).a < rows_of t
  pub global : (row_at v r).kind ≡ 0 → KeptIn (is_global v) 0 (0 + r)

variable_row : (t v : List ℕ) (r : ℕ) → variable_kept t v r ≡ true → VariableRow t v r
unfolding variable_kept form_kept
variable_row t v r e =
    let (kind, e₁) = also_true _ _ e in
    let (filled, e₂) = also_true _ _ e₁ in
    let (typed, e₃) = also_true _ _ e₂ in
    let (b, e₄) = also_true _ _ e₃ in
    let (c, first) = also_true _ _ e₄ in
    record {
      kind = leb-true _ _ kind;
      typed = ltb-true _ _ typed;
      global = λ k. all_each (is_global v) r 0 (sym (choose_yes _ _ _ (eq-eqb (row_at v r).kind 0 k)) ∙ first);
    }

pub variables_kept : (t v : List ℕ) → question5 t v ≡ Ok tt → (r : ℕ) → r < rows_of v → VariableRow t v r
unfolding question5
variables_kept t v e r h = variable_row t v r (verdict_kept (variable_kept t v) (rows_of v) e r h)

-- ---- procedures

-- an accepted procedure row: its body, and its variables from `first` on
pub record ProcedureRow (v p s : List ℕ) (r first : ℕ) : Type 0 where
  pub start : (row_at p r).a < rows_of s
  pub body : (row_at p r).a < body_end p (rows_of s) r
  pub main : r ≡ 0 → ((row_at p r).a ≡ 0) × ((row_at p r).b ≡ 0)
  pub room : first + ((row_at p r).b + (row_at p r).c) ≤ rows_of v
  pub parameters : KeptIn (is_parameter v) first (first + (row_at p r).b)
  pub locals : KeptIn (is_local v) (first + (row_at p r).b) (first + (row_at p r).b + (row_at p r).c)

module_row : (r : ℕ) (row : Row) → module_kept r row ≡ true → r ≡ 0 → (row.a ≡ 0) × (row.b ≡ 0)
unfolding module_kept
module_row r row e z =
    let (a, b) = also_true _ _ (sym (choose_yes _ _ _ (eq-eqb r 0 z)) ∙ e) in
    (eqb-true _ _ a, eqb-true _ _ b)

procedure_row : (v p s : List ℕ) (r : ℕ) → procedure_kept v p s r ≡ true → ProcedureRow v p s r (first_variable v p r)
unfolding procedure_kept body_kept own_kept claimed_by
procedure_row v p s r e =
    let (body, own) = also_true _ _ e in
    let (kind, b₁) = also_true _ _ body in
    let (filled, b₂) = also_true _ _ b₁ in
    let (main, b₃) = also_true _ _ b₂ in
    let (start, end) = also_true _ _ b₃ in
    let (room, o₁) = also_true _ _ own in
    let (parameters, locals) = also_true _ _ o₁ in
    record {
      start = ltb-true _ _ start;
      body = ltb-true _ _ end;
      main = module_row r (row_at p r) main;
      room = leb-true _ _ room;
      parameters = all_each _ _ _ parameters;
      locals = all_each _ _ _ locals;
    }

-- accepted procedures
pub record ProceduresKept (v p s : List ℕ) : Type 0 where
  pub row : (r : ℕ) → r < rows_of p → ProcedureRow v p s r (first_variable v p r)
  pub claimed : first_variable v p (rows_of p) ≡ rows_of v

pub procedures_kept : (v p s : List ℕ) → question6 v p s ≡ Ok tt → ProceduresKept v p s
unfolding question6
procedures_kept v p s e =
    let (kept, all) = up_to_kept (procedure_kept v p s) (rows_of p) _ e in
    record { row = λ r h. procedure_row v p s r (kept.each r (omega arith) h); claimed = eqb-true _ _ all }
