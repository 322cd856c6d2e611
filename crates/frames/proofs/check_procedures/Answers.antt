use mathlib.Core.Path.{◌≡◌, sym, ◌∙◌}
use native.Mathlib.Omega.{arith}
use Rattle.frames.proofs.Claiming.{claimed_none, body_bad, own_bad, claimed_next, variables_bad, variables_all}
use Rattle.frames.proofs.check_procedures.Goals as goal
use Rattle.frames.proofs.check_procedures.Goals.{then-not-body_kept-via-then-not-body_kept}
use Rattle.frames.proofs.check_procedures.Goals.{then-not-body_kept-via-else-not-body_kept+then-not-own_kept}

pub loop-r-init : goal.loop-r-init
loop-r-init c = claimed_none _ _ _ _ c.globals-first.ensures

pub returns-then-not-body_kept : goal.returns-then-not-body_kept
returns-then-not-body_kept c = let l = c.loop-r in
    let more = rw c.rows_of-n.ensures at c.loop-r-test.true in
    let body = rw c.rows_of-statements.ensures at c.body_kept.ensures in
    elim c.then-not-body_kept.branch [
      | then-not-body_kept-via-then-not-body_kept w ↦
          body_bad _ _ _ _ _ l.invariant more _ c.row_at-row.ensures (sym body ∙ w.if-not-body_kept.true)
      | then-not-body_kept-via-else-not-body_kept+then-not-own_kept w ↦
          own_bad _ _ _ _ _ l.invariant more _ c.row_at-row.ensures (sym w.own_kept.ensures ∙ w.if-not-own_kept.true)
    ]

pub loop-r-preserved : goal.loop-r-preserved
loop-r-preserved c = let l = c.loop-r in
    let more = rw c.rows_of-n.ensures at c.loop-r-test.true in
    let body = rw c.rows_of-statements.ensures at c.body_kept.ensures in
    let own = sym c.own_kept.ensures ∙ c.if-not-own_kept.false in
    claimed_next _ _ _ _ _ l.invariant more _ c.row_at-row.ensures (sym body ∙ c.if-not-body_kept.false) own

pub returns-then-first-rows_of : goal.returns-then-first-rows_of
returns-then-first-rows_of c = let l = c.loop-r in
    let done = rw c.rows_of-n.ensures at c.loop-r-test.false in
    variables_all _ _ _ _ _ l.invariant done (c.if-first-rows_of.true ∙ c.rows_of.ensures)

pub returns-else-first-rows_of : goal.returns-else-first-rows_of
returns-else-first-rows_of c = let l = c.loop-r in
    let done = rw c.rows_of-n.ensures at c.loop-r-test.false in
    let last : c.rows_of-n.result ≡ l.r = omega arith in
    rw last (variables_bad _ _ _ _ _ l.invariant done (λ e. c.if-first-rows_of.false (e ∙ sym c.rows_of.ensures)))
