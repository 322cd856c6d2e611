use mathlib.Core.Path.{sym, ◌∙◌}
use Rattle.operators.proofs.Operands.{two_booleans, two_integers, integer_and_set, two_sets}
use Rattle.operators.proofs.Operands.{not_booleans, not_integer, not_sets}
use Rattle.values.proofs.Numbers.{plain32}
use borrow.Author.Rules.{rules}
use Rattle.cases_values.proofs.dyadic.Goals as goal

pub returns-in-Bool-Bool : goal.returns-in-Bool-Bool
returns-in-Bool-Bool c =
    c.booleans.ensures ∙ rw (c.in-Bool-Bool.is-0, c.in-Bool-Bool.is-1) (sym (two_booleans _ _ _))

pub returns-in-Int-Int : goal.returns-in-Int-Int
returns-in-Int-Int c =
    let m = c.in-Int-Int in
    c.integers.ensures
    ∙ rw (m.is-0, m.is-1, plain32 m.x (search rules), plain32 m.y (search rules)) (sym (two_integers _ _ _))

pub returns-in-Int-Set : goal.returns-in-Int-Set
returns-in-Int-Set c =
    c.membership.ensures ∙ rw (c.in-Int-Set.is-0, c.in-Int-Set.is-1, plain32 c.in-Int-Set.x (search rules))
    (sym (integer_and_set _ _ _))

pub returns-in-Set-Set : goal.returns-in-Set-Set
returns-in-Set-Set c =
    c.sets.ensures ∙ rw (c.in-Set-Set.is-0, c.in-Set-Set.is-1) (sym (two_sets _ _ _))

pub returns-in_default : goal.returns-in_default
returns-in_default c = rw c.in_default.is-0 (sym (not_booleans _ _ _ c.in_default.not-Bool-1))

pub returns-in_default-2 : goal.returns-in_default-2
returns-in_default-2 c = rw (c.in_default.is-0, c.in_default.is-1) (sym (not_integer _ _ _))

pub returns-in_default-3 : goal.returns-in_default-3
returns-in_default-3 c = rw c.in_default.is-0 (sym (not_sets _ _ _ c.in_default.not-Set-1))
