use mathlib.Core.Path.{◌≡◌, sym}
use Prim.Native.Nat.{◌+◌}
use native.Mathlib.Omega.{arith}
use borrow.Author.Tests.{le-leb, lt-leb}
use Rattle.prelude.proofs.Choice.{also_yes, also_left, also_right}
use Rattle.image.proofs.Faults.{kept_next, each_all, not_all}
use Rattle.frames.specs.Variables.{kind_within}
use Rattle.frames.proofs.kinds_within.Goals as goal
use Rattle.frames.proofs.kinds_within.Goals.{then-row-low-via-then-row-low}
use Rattle.frames.proofs.kinds_within.Goals.{then-row-low-via-else-row-low+then-high-row}

pub returns-then-row-low : goal.returns-then-row-low
unfolding kind_within
returns-then-row-low c = let l = c.loop-i in
    sym (not_all (kind_within _ _ _) _ _ l.i (omega arith) (omega arith)
    (rw (← c.row_at-row.ensures) (elim c.then-row-low.branch [
      | then-row-low-via-then-row-low w ↦ also_left _ (lt-leb _ _ w.if-row-low.true)
      | then-row-low-via-else-row-low+then-high-row w ↦ also_right _ (lt-leb _ _ w.if-high-row.true)
    ])))

pub loop-i-preserved : goal.loop-i-preserved
unfolding kind_within
loop-i-preserved c =
    kept_next (kind_within _ _ _) _ _ c.loop-i.invariant
    (rw (← c.row_at-row.ensures) (also_yes (le-leb _ _ c.if-row-low.false) (le-leb _ _ c.if-high-row.false)))

pub returns : goal.returns
returns c = let l = c.loop-i in
    let s = c.args in
    let q : l.i ≡ s.k + s.n = omega arith in
    sym (each_all _ _ _ (rw q at l.invariant))
