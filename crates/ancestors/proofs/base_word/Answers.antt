use mathlib.Core.Path.{◌≡◌, sym, ◌∙◌, ap}
use Prim.Native.Nat.{◌+◌, ◌-◌}
use native.Mathlib.Omega.{arith}
use Rattle.shapes.specs.Forms.{form, base_of}
use Rattle.shapes.proofs.Rows.{row_form}
use Rattle.relations.proofs.Climbing.{up_none, up_high, up_low}
use Rattle.ancestors.proofs.base_word.Goals as goal
use Rattle.ancestors.proofs.base_word.Goals.{After-base_of-base}

-- the row's base
base_is : (c : After-base_of-base) → c.base_of-base.result ≡ base_of (form c.args.t.now c.args.r)
base_is c = c.base_of-base.ensures ∙ ap base_of (row_form _ _ c.row_at-row.ensures)

pub returns-then-base-eq0 : goal.returns-then-base-eq0
returns-then-base-eq0 c = rw (← base_is (goal.at.returns-then-base-eq0 c).After-base_of-base) (sym (up_none 0 _ _ _ c.if-base-eq0.true))

pub returns-then-r-base : goal.returns-then-r-base
returns-then-r-base c = rw (← base_is (goal.at.returns-then-r-base c).After-base_of-base) (sym (up_high 0 _ _ _ (omega arith) (omega arith)))

pub returns : goal.returns
returns c = let base = c.base_of-base.result in
    let at : c.args.from + base - 1 ≡ c.args.from + (base - 1) = omega arith in
    rw (at, ← base_is (goal.at.returns c).After-base_of-base) (sym (up_low 0 _ _ _ (omega arith) (omega arith)))
