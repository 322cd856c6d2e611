use mathlib.Core.Path.{refl, sym, ◌∙◌}
use native.Mathlib.Omega.{arith}
use Rattle.image.proofs.Faults.{kept_none, kept_next, scan_bad, scan_end}
use Rattle.statements.specs.Statements.{procedure_at, question8}
use Rattle.statements.proofs.Scanning.{statement_is, procedure_next, procedure_few}
use Rattle.statements.proofs.scan_statements.Goals as goal

pub loop-r-init : goal.loop-r-init
unfolding procedure_at
loop-r-init c = (refl, kept_none _ _)

pub statement_in-requires : goal.statement_in-requires
statement_in-requires c = let l = c.loop-r in
    let few = procedure_few c.args.p.now l.r in
    let rows = c.rows_of-statements.ensures in
    let most = c.requires.0 in
    (omega (arith, l.invariant.0, few), omega arith, c.requires.1)

pub returns-then-not-statement_in : goal.returns-then-not-statement_in
unfolding question8
returns-then-not-statement_in c = let l = c.loop-r in
    let is = rw c.rows_of-statements.ensures at c.statement_in.ensures in
    let bad = sym (is ∙ statement_is _ _ _ _ _ _ c.row_at-row.ensures l.invariant.0) ∙ c.if-not-statement_in.true in
    scan_bad _ _ _ l.invariant.1 (rw c.rows_of-statements.ensures at c.loop-r-test.true) bad

pub next_procedure-q-requires : goal.next_procedure-q-requires
next_procedure-q-requires c = let l = c.loop-r in
    let few = procedure_few c.args.p.now l.r in
    let rows = c.rows_of-statements.ensures in
    let most = c.requires.0 in
    omega (arith, l.invariant.0, few)

pub loop-r-preserved : goal.loop-r-preserved
loop-r-preserved c = let l = c.loop-r in
    let is = rw c.rows_of-statements.ensures at c.statement_in.ensures in
    let good = sym (is ∙ statement_is _ _ _ _ _ _ c.row_at-row.ensures l.invariant.0) ∙ c.if-not-statement_in.false in
    (c.next_procedure-q.ensures ∙ procedure_next _ _ _ l.invariant.0, kept_next _ _ _ l.invariant.1 good)

pub returns : goal.returns
unfolding question8
returns c = let l = c.loop-r in
    scan_end _ _ _ l.invariant.1 (rw c.rows_of-statements.ensures at c.loop-r-test.false)
