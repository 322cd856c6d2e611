use native.Mathlib.Omega.{arith}
use native.Mathlib.Nat.{add-sub_cancel_left}
use Prim.Native.Nat.{◌*◌}
use borrow.Author.Tests.{ne_eqb, eq-eqb}
use Rattle.prelude.specs.Choice.{choose}
use Rattle.cases_values.specs.Cases.{case_at, weight_at}
use Rattle.cases_values.proofs.weight_at.Goals as goal
use Rattle.cases_values.proofs.weight_at.Goals.{else-s-what-via-then-s-what+else-is_good-good}
use Rattle.cases_values.proofs.weight_at.Goals.{else-s-what-via-else-s-what}

-- `cases_values::weight_at` meets its contract: the part of the cases that it looks at is case k.
pub returns-then-is_good-good : goal.returns-then-is_good-good
unfolding weight_at case_at choose
returns-then-is_good-good c =
    let e = add-sub_cancel_left (c.args.k * 17) 17 in
    let good = rw e at c.is_good.ensures in
    (rw (eq-eqb _ _ (rw e at c.if-s-what.true), ← good, c.if-is_good-good.true), omega arith)

pub returns-else-s-what : goal.returns-else-s-what
unfolding weight_at case_at choose
returns-else-s-what c =
    let e = add-sub_cancel_left (c.args.k * 17) 17 in
    elim c.else-s-what.branch [
      | else-s-what-via-then-s-what+else-is_good-good w ↦
          let good = rw e at w.is_good.ensures in
          (rw (eq-eqb _ _ (rw e at w.if-s-what.true), ← good, w.if-is_good-good.false), omega arith)
      | else-s-what-via-else-s-what w ↦ (rw (ne_eqb _ _ (rw e at w.if-s-what.false)), omega arith)
    ]
