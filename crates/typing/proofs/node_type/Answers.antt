use Rattle.std.specs.Prelude.{Option}
use Rattle.typing.specs.Typing.{type_by}
use mathlib.Core.Path.{◌≡◌, refl, sym, ◌∙◌, ap}
use mathlib.Core.List.{List}
use Prim.Native.Nat.{ℕ}
use Rattle.prelude.specs.Choice.{choose}
use borrow.Author.Tests.{ne_eqb}
use Rattle.image.specs.declared.Row.{Row}
use Rattle.typing.proofs.node_type.Goals as goal

-- a row of kind k
module _ (t f v : List ℕ) (type : ℕ → Option ℕ) (row : Row) {x : (Option ℕ)} where
  of_kind : {k : ℕ} → row.kind ≡ k → x ≡ type_by t f v type k row → x ≡ type_by t f v type row.kind row
  of_kind kind given = given ∙ sym (ap (λ (j : ℕ). type_by t f v type j row) kind)

pub returns-in-0 : goal.returns-in-0
unfolding type_by choose
returns-in-0 c = of_kind _ _ _ _ _ c.in-0.is refl

pub returns-in-1 : goal.returns-in-1
unfolding type_by choose
returns-in-1 c = of_kind _ _ _ _ _ c.in-1.is c.variable_node.ensures

pub returns-in-2 : goal.returns-in-2
unfolding type_by choose
returns-in-2 c = of_kind _ _ _ _ _ c.in-2.is c.field_node.ensures

pub returns-in-3 : goal.returns-in-3
unfolding type_by choose
returns-in-3 c = of_kind _ _ _ _ _ c.in-3.is c.element_node.ensures

pub returns-in-4 : goal.returns-in-4
unfolding type_by choose
returns-in-4 c = of_kind _ _ _ _ _ c.in-4.is c.narrow_node.ensures

pub returns-in-5 : goal.returns-in-5
unfolding type_by choose
returns-in-5 c = of_kind _ _ _ _ _ c.in-5.is c.dyadic_node.ensures

pub returns-in-6 : goal.returns-in-6
unfolding type_by choose
returns-in-6 c = of_kind _ _ _ _ _ c.in-6.is c.monadic_node.ensures

pub returns-in-7 : goal.returns-in-7
unfolding type_by choose
returns-in-7 c = of_kind _ _ _ _ _ c.in-7.is c.narrow_node-in-7.ensures

pub returns-in-8 : goal.returns-in-8
unfolding type_by choose
returns-in-8 c = of_kind _ _ _ _ _ c.in-8.is c.type_at.ensures

pub returns-in_default : goal.returns-in_default
unfolding type_by choose
returns-in_default c =
    let other = c.in_default.in_default-own.rest in
    rw (
      ne_eqb _ 0 other.0.0.0.0.0.0.0.0.1,
      ne_eqb _ 1 other.0.0.0.0.0.0.0.1,
      ne_eqb _ 2 other.0.0.0.0.0.0.1,
      ne_eqb _ 3 other.0.0.0.0.0.1,
      ne_eqb _ 4 other.0.0.0.0.1,
      ne_eqb _ 5 other.0.0.0.1,
      ne_eqb _ 6 other.0.0.1,
      ne_eqb _ 7 other.0.1,
      ne_eqb _ 8 other.1,
    )
