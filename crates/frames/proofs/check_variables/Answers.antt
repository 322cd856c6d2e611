use Rattle.frames.proofs.Scanning.{passed_none, variable_bad, passed_next, variables_good}
use Rattle.frames.proofs.check_variables.Goals as goal

pub loop-r-init : goal.loop-r-init
loop-r-init c = passed_none _ _

pub returns-then-not-form_kept : goal.returns-then-not-form_kept
returns-then-not-form_kept c = let l = c.loop-r in
    let more = rw c.rows_of-n.ensures at c.loop-r-test.true in
    variable_bad _ _ _ _ l.invariant more _ c.row_at-row.ensures _
    (rw c.rows_of-types.ensures at c.form_kept.ensures) c.if-not-form_kept.true

pub loop-r-preserved : goal.loop-r-preserved
loop-r-preserved c = let l = c.loop-r in
    let more = rw c.rows_of-n.ensures at c.loop-r-test.true in
    passed_next _ _ _ _ l.invariant more _ c.row_at-row.ensures _
    (rw c.rows_of-types.ensures at c.form_kept.ensures) c.if-not-form_kept.false

pub returns : goal.returns
returns c = variables_good _ _ _ _ c.loop-r.invariant (rw c.rows_of-n.ensures at c.loop-r-test.false)
