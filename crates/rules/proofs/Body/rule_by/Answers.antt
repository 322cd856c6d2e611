use Rattle.std.specs.Prelude.{Option}
use Rattle.rules.specs.Rules.{rule_by}
use mathlib.Core.Path.{◌≡◌, sym, ◌∙◌, ap}
use mathlib.Core.Bool.{Bool}
use mathlib.Core.List.{List}
use Prim.Native.Nat.{ℕ}
use Rattle.prelude.specs.Choice.{choose}
use borrow.Author.Tests.{ne_eqb}
use Rattle.image.specs.declared.Row.{Row}
use Rattle.rules.proofs.Body.rule_by.Goals as goal

-- a row of kind k
module _ (t v p n : List ℕ) (type : ℕ → Option ℕ) (own : ℕ → Bool) (row : Row) {x : Bool} where
  of_kind : {k : ℕ} → row.kind ≡ k → x ≡ rule_by t v p n type own k row → x ≡ rule_by t v p n type own row.kind row
  of_kind kind given = given ∙ sym (ap (λ (j : ℕ). rule_by t v p n type own j row) kind)

pub returns-in-0 : goal.returns-in-0
unfolding rule_by choose
returns-in-0 c = of_kind _ _ _ _ _ _ _ c.in-0.is c.assign_rule.ensures

pub returns-in-1 : goal.returns-in-1
unfolding rule_by choose
returns-in-1 c = of_kind _ _ _ _ _ _ _ c.in-1.is c.call_rule.ensures

pub returns-in-2 : goal.returns-in-2
unfolding rule_by choose
returns-in-2 c = of_kind _ _ _ _ _ _ _ c.in-2.is c.type_rule.ensures

pub returns-in-5 : goal.returns-in-5
unfolding rule_by choose
returns-in-5 c = of_kind _ _ _ _ _ _ _ c.in-5.is c.type_rule-in-5.ensures

pub returns-in-6 : goal.returns-in-6
unfolding rule_by choose
returns-in-6 c = of_kind _ _ _ _ _ _ _ c.in-6.is c.type_rule-in-6.ensures

pub returns-in-7 : goal.returns-in-7
unfolding rule_by choose
returns-in-7 c = of_kind _ _ _ _ _ _ _ c.in-7.is c.halt_rule.ensures

pub returns-in_default : goal.returns-in_default
unfolding rule_by choose
returns-in_default c =
    let other = c.in_default.in_default-own.rest in
    rw (
      ne_eqb _ 0 other.0.0.0.0.0.1,
      ne_eqb _ 1 other.0.0.0.0.1,
      ne_eqb _ 2 other.0.0.0.1,
      ne_eqb _ 5 other.0.0.1,
      ne_eqb _ 6 other.0.1,
      ne_eqb _ 7 other.1,
    )
