use mathlib.Core.Path.{◌≡◌, sym}
use mathlib.Core.Bool.{false}
use lib.Dec.{eqb}
use lib.IntN.{nat_abs}
use Rattle.values.proofs.Numbers.{plain32, plain64}
use Rattle.integers.proofs.Answers.{not_divided, div_divided, mod_divided}
use Rattle.integers.proofs.Signs.{is_zero, is_not_zero}
use borrow.Author.Rules.{rules}
use Rattle.integers.proofs.divide.Goals as goal
use Rattle.integers.proofs.divide.Goals.{Else-y-eq0}

-- `integers::divide` meets its contract: by the divisor and the operator number.
not-zero : (c : Else-y-eq0) → eqb (nat_abs c.args.y) 0 ≡ false
not-zero c = is_not_zero c.args.y c.if-y-eq0.false

pub returns-then-y-eq0 : goal.returns-then-y-eq0
returns-then-y-eq0 c = sym (not_divided _ _ _ (is_zero _ c.ranges.y c.if-y-eq0.true))

pub div_floor-requires : goal.div_floor-requires
div_floor-requires c = rw (plain32 _ c.ranges.y) (not-zero (goal.at.div_floor-requires c).Else-y-eq0)

pub mod_floor-requires : goal.mod_floor-requires
mod_floor-requires c = rw (plain32 _ c.ranges.y) (not-zero (goal.at.mod_floor-requires c).Else-y-eq0)

pub returns-then-op-eq4 : goal.returns-then-op-eq4
returns-then-op-eq4 c =
    rw (c.integer.ensures, plain64 c.div_floor.result (search rules), c.div_floor.ensures)
    (rw (plain32 _ c.ranges.x, plain32 _ c.ranges.y)
    (sym (div_divided _ _ _ (not-zero (goal.at.returns-then-op-eq4 c).Else-y-eq0) c.if-op-eq4.true)))

pub returns-else-op-eq4 : goal.returns-else-op-eq4
returns-else-op-eq4 c =
    rw (plain32 c.mod_floor.result (search rules), c.mod_floor.ensures)
    (rw (plain32 _ c.ranges.x, plain32 _ c.ranges.y)
    (sym (mod_divided _ _ _ (not-zero (goal.at.returns-else-op-eq4 c).Else-y-eq0) c.if-op-eq4.false)))
