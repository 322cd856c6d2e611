-- What question 11 says of an accepted statement row.
use Rattle.std.specs.Prelude.{Option, Some, None, Ok}
use mathlib.Core.Path.{◌≡◌, refl, sym, ◌∙◌, ap}
use mathlib.Core.Bool.{Bool, true}
use mathlib.Core.List.{List}
use Prim.Native.Nat.{ℕ, ◌+◌, ◌<◌}
use native.Mathlib.Omega.{arith}
use borrow.Author.Tests.{eqb-true, eq-eqb}
use Rattle.prelude.specs.Choice.{choose}
use Rattle.prelude.proofs.Choice.{choose_yes, also_true, clash}
use Rattle.image.specs.declared.Row.{Row}
use Rattle.image.specs.Rows.{row_at, rows_of}
use Rattle.image.proofs.Faults.{all_each, verdict_kept}
use Rattle.values.specs.Values.{BOOLEAN, INTEGER}
use Rattle.relations.specs.Extends.{extends}
use Rattle.frames.specs.Procedures.{first_variable}
use Rattle.nodes.specs.Nodes.{is_designator}
use Rattle.statements.specs.Statements.{procedure_at, question8}
use Rattle.statements.proofs.Accepted.{StatementRow, StatementRow.is_assign, StatementRow.is_call}
use Rattle.statements.proofs.Accepted.{StatementRow.is_jump, StatementRow.is_goto, StatementRow.is_return}
use Rattle.statements.proofs.Accepted.{StatementRow.is_read, StatementRow.is_write, StatementRow.is_halt}
use Rattle.statements.proofs.Accepted.{statements_kept}
use Rattle.typing.specs.Typing.{type_of}
use Rattle.owners.specs.Owners.{own_below}
use Rattle.rules.specs.Rules.{is_type, assignable, assign_rule, form_rule, argument_rule, call_rule, type_rule}
use Rattle.rules.specs.Rules.{halt_rule, rule_by, statement_rule, rules_by, question11}

-- ---- a row of each kind, in the body of procedure q

pub record AssignRuled (t f v p n : List ℕ) (q : ℕ) (row : Row) : Type 0 where
  pub source : ℕ
  pub target : ℕ
  pub source_type : type_of t f v n row.b ≡ Some source
  pub target_type : type_of t f v n row.a ≡ Some target
  pub extension : extends t source target ≡ true
  pub own_source : own_below v p n q row.b ≡ true
  pub own_target : own_below v p n q row.a ≡ true

-- argument row k, for parameter row a
pub record ArgumentRuled (t f v p n : List ℕ) (q k a : ℕ) : Type 0 where
  pub passed : ℕ
  pub passed_type : type_of t f v n k ≡ Some passed
  pub extension : extends t passed (row_at v a).a ≡ true
  pub designator : (row_at v a).kind ≡ 3 → is_designator n (row_at n k).a ≡ true
  pub own : own_below v p n q k ≡ true

pub record CallRuled (t f v p n : List ℕ) (q : ℕ) (row : Row) : Type 0 where
  pub argument : (j : ℕ) → j < (row_at p row.a).b
      → ArgumentRuled t f v p n q (row.b + j) (first_variable v p row.a + j)

-- a statement whose node's type is row x
pub record ValueRuled (t f v p n : List ℕ) (q : ℕ) (row : Row) (x : ℕ) : Type 0 where
  pub type : type_of t f v n row.a ≡ Some x
  pub own : own_below v p n q row.a ≡ true

pub record HaltRuled (t f v p n : List ℕ) (q : ℕ) (row : Row) : Type 0 where
  pub value : ValueRuled t f v p n q row INTEGER
  pub constant : (row_at n row.a).kind ≡ 0

-- an accepted statement row: its kind, and what the kind asks for
pub data StatementRuled (t f v p n s : List ℕ) (r : ℕ) : Type 0 where
  by_assign : (row_at s r).kind ≡ 0 → AssignRuled t f v p n (procedure_at p r) (row_at s r) → StatementRuled t f v p n s r
  by_call : (row_at s r).kind ≡ 1 → CallRuled t f v p n (procedure_at p r) (row_at s r) → StatementRuled t f v p n s r
  by_jump : (row_at s r).kind ≡ 2 → ValueRuled t f v p n (procedure_at p r) (row_at s r) BOOLEAN
      → StatementRuled t f v p n s r
  by_goto : (row_at s r).kind ≡ 3 → StatementRuled t f v p n s r
  by_return : (row_at s r).kind ≡ 4 → StatementRuled t f v p n s r
  by_read : (row_at s r).kind ≡ 5 → ValueRuled t f v p n (procedure_at p r) (row_at s r) INTEGER
      → StatementRuled t f v p n s r
  by_write : (row_at s r).kind ≡ 6 → ValueRuled t f v p n (procedure_at p r) (row_at s r) INTEGER
      → StatementRuled t f v p n s r
  by_halt : (row_at s r).kind ≡ 7 → HaltRuled t f v p n (procedure_at p r) (row_at s r) → StatementRuled t f v p n s r

-- ---- what the rules say

type_there : (a : Option ℕ) (x : ℕ) → is_type a x ≡ true → a ≡ Some x
unfolding is_type
type_there None x e = clash (sym e)
type_there (Some y) x e = ap Some (eqb-true y x e)

assignable_there : (t : List ℕ) (a b : Option ℕ) → assignable t a b ≡ true
    → (x : ℕ) × (y : ℕ) × (a ≡ Some x) × (b ≡ Some y) × (extends t x y ≡ true)
unfolding assignable
assignable_there t None b e = clash (sym e)
assignable_there t (Some x) None e = clash (sym e)
assignable_there t (Some x) (Some y) e = (x, y, refl, refl, e)

passable_there : (t : List ℕ) (a : Option ℕ) (y : ℕ) → assignable t a (Some y) ≡ true
    → (x : ℕ) × (a ≡ Some x) × (extends t x y ≡ true)
unfolding assignable
passable_there t None y e = clash (sym e)
passable_there t (Some x) y e = (x, refl, e)

form_ruled : (n : List ℕ) (kind k : ℕ) → form_rule n kind k ≡ true → kind ≡ 3 → is_designator n (row_at n k).a ≡ true
unfolding form_rule
form_ruled n kind k e var = sym (choose_yes _ _ _ (eq-eqb kind 3 var)) ∙ e

module _ (t f v p n : List ℕ) (q : ℕ) where
  abbrev types : ℕ → Option ℕ
  types = type_of t f v n

  abbrev own : ℕ → Bool
  own = own_below v p n q

  assign_there : (row : Row) → assign_rule t types own row ≡ true → AssignRuled t f v p n q row
  unfolding assign_rule
  assign_there row e =
      let (may, e₁) = also_true _ _ e in
      let (a, b) = also_true _ _ e₁ in
      let (x, y, source, target, extension) = assignable_there t (types row.b) (types row.a) may in
      record {
        source = x;
        target = y;
        source_type = source;
        target_type = target;
        extension = extension;
        own_source = b;
        own_target = a;
      }

  argument_there : (k a : ℕ) → argument_rule t v n types own k a ≡ true → ArgumentRuled t f v p n q k a
  unfolding argument_rule
  argument_there k a e =
      let (may, e₁) = also_true _ _ e in
      let (form, mine) = also_true _ _ e₁ in
      let (x, type, extension) = passable_there t (types k) (row_at v a).a may in
      record {
        passed = x;
        passed_type = type;
        extension = extension;
        designator = form_ruled n (row_at v a).kind k form;
        own = mine;
      }

  call_there : (row : Row) → call_rule t v p n types own row ≡ true → CallRuled t f v p n q row
  unfolding call_rule
  call_there row e = record {
    argument = λ j less. argument_there (row.b + j) (first_variable v p row.a + j)
        ((all_each _ (row_at p row.a).b 0 e).each j (omega arith) (omega arith));
  }

  value_there : (row : Row) (x : ℕ) → type_rule types own row x ≡ true → ValueRuled t f v p n q row x
  unfolding type_rule
  value_there row x e =
      let (type, mine) = also_true _ _ e in
      record { type = type_there (types row.a) x type; own = mine }

  halt_there : (row : Row) → halt_rule n types own row ≡ true → HaltRuled t f v p n q row
  unfolding halt_rule
  halt_there row e =
      let (value, constant) = also_true _ _ e in
      record { value = value_there row INTEGER value; constant = eqb-true _ _ constant }

-- ---- the whole table

module _ (t f v p n s : List ℕ) (e : question11 t f v p n s ≡ Ok tt) (r : ℕ) (h : r < rows_of s) where
  -- where the kind is known
  ruled : (k : ℕ) → (row_at s r).kind ≡ k
      → rule_by t v p n (type_of t f v n) (own_below v p n (procedure_at p r)) k (row_at s r) ≡ true
  unfolding question11 rules_by statement_rule
  ruled k kind =
      sym (ap (λ (j : ℕ). rule_by t v p n (type_of t f v n) (own_below v p n (procedure_at p r)) j (row_at s r)) kind)
      ∙ verdict_kept (statement_rule t v p n s (type_of t f v n)) (rows_of s) e r h

  pub assign_ruled : (row_at s r).kind ≡ 0 → AssignRuled t f v p n (procedure_at p r) (row_at s r)
  unfolding rule_by choose
  assign_ruled k = assign_there t f v p n (procedure_at p r) (row_at s r) (ruled 0 k)

  pub call_ruled : (row_at s r).kind ≡ 1 → CallRuled t f v p n (procedure_at p r) (row_at s r)
  unfolding rule_by choose
  call_ruled k = call_there t f v p n (procedure_at p r) (row_at s r) (ruled 1 k)

  pub jump_ruled : (row_at s r).kind ≡ 2 → ValueRuled t f v p n (procedure_at p r) (row_at s r) BOOLEAN
  unfolding rule_by choose
  jump_ruled k = value_there t f v p n (procedure_at p r) (row_at s r) BOOLEAN (ruled 2 k)

  pub read_ruled : (row_at s r).kind ≡ 5 → ValueRuled t f v p n (procedure_at p r) (row_at s r) INTEGER
  unfolding rule_by choose
  read_ruled k = value_there t f v p n (procedure_at p r) (row_at s r) INTEGER (ruled 5 k)

  pub write_ruled : (row_at s r).kind ≡ 6 → ValueRuled t f v p n (procedure_at p r) (row_at s r) INTEGER
  unfolding rule_by choose
  write_ruled k = value_there t f v p n (procedure_at p r) (row_at s r) INTEGER (ruled 6 k)

  pub halt_ruled : (row_at s r).kind ≡ 7 → HaltRuled t f v p n (procedure_at p r) (row_at s r)
  unfolding rule_by choose
  halt_ruled k = halt_there t f v p n (procedure_at p r) (row_at s r) (ruled 7 k)

  pub statements_ruled : question8 n p s ≡ Ok tt → StatementRuled t f v p n s r
  statements_ruled formed = go (statements_kept n p s formed r h)
    where
      go : StatementRow n p s r → StatementRuled t f v p n s r
      go (is_assign z k c) = by_assign k (assign_ruled k)
      go (is_call z k c) = by_call k (call_ruled k)
      go (is_jump z k c) = by_jump k (jump_ruled k)
      go (is_goto z k c) = by_goto k
      go (is_return z k c) = by_return k
      go (is_read z k c) = by_read k (read_ruled k)
      go (is_write z k c) = by_write k (write_ruled k)
      go (is_halt z k c) = by_halt k (halt_ruled k)
