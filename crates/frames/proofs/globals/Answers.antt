use mathlib.Core.Path.{sym, ◌∙◌}
use native.Mathlib.Omega.{arith}
use Rattle.frames.specs.Variables.{globals_of}
use Rattle.frames.proofs.Scanning.{globals_more, globals_stop, globals_end}
use Rattle.frames.proofs.globals.Goals as goal

pub returns-then-row-ne0 : goal.returns-then-row-ne0
unfolding globals_of
returns-then-row-ne0 c = let l = c.loop-k in
    sym (rw (← c.rows_of-n.ensures)
    (l.invariant ∙ globals_stop _ _ _ c.loop-k-test.true c.row_at-row.ensures c.if-row-ne0.true))

pub loop-k-preserved : goal.loop-k-preserved
loop-k-preserved c =
    c.loop-k.invariant ∙ globals_more _ _ _ c.loop-k-test.true c.row_at-row.ensures c.if-row-ne0.false

pub returns : goal.returns
unfolding globals_of
returns c = let end = globals_end c.args.v.now c.loop-k.k _ c.loop-k-test.false in
    rw (← c.rows_of-n.ensures) (omega arith)
