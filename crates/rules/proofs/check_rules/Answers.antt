use Rattle.rules.proofs.Ruling.{empty, ready, statement_is}
use Rattle.rules.specs.Rules.{rules_by}
use Rattle.statements.proofs.Scanning.{procedure_first, procedure_next, procedure_few}
use Rattle.image.proofs.Faults.{kept_none, kept_next, scan_bad, scan_end}
use native.Mathlib.Omega.{arith}
use mathlib.Core.Path.{sym, ◌∙◌}
use Rattle.rules.proofs.check_rules.Goals as goal

pub loop-r-init : goal.loop-r-init
loop-r-init c = (procedure_first _, kept_none _ _)

pub overflow_add-q : goal.overflow_add-q
overflow_add-q c = let l = c.loop-r in
    let small = c.requires.few_statements in
    let least = procedure_few c.args.p.now l.r in
    omega (arith, l.invariant.0, c.rows_of-r-end.ensures)

pub rule_by-requires : goal.rule_by-requires
rule_by-requires c = record { first = c.first_variables.ensures.first }

pub returns-then-not-rule_by : goal.returns-then-not-rule_by
unfolding rules_by
returns-then-not-rule_by c = let l = c.loop-r in
    let more = rw c.rows_of-r-end.ensures at c.loop-r-test.true in
    let table = c.fill_spans.ensures in
    let known = ready _ _ _ _ _ _ _ _ _ c.requires c.rows_of-nodes.ensures table
    (omega (arith, table.cells, empty 2048 (record { least = 0; past = 0 }), c.requires.few_nodes)) c.first_variables.ensures in
    let here = statement_is _ _ _ _ _ _ _ known _ l.r l.q more l.invariant.0 _ c.row_at-row.ensures _ _
    c.cell.ensures c.cell-in-loop-r.ensures in
    scan_bad _ _ _ l.invariant.1 more (sym here ∙ sym c.rule_by.ensures ∙ c.if-not-rule_by.true)

pub next_procedure-q-requires : goal.next_procedure-q-requires
next_procedure-q-requires c = let l = c.loop-r in
    let small = c.requires.few_statements in
    let least = procedure_few c.args.p.now l.r in
    omega (arith, l.invariant.0, c.rows_of-r-end.ensures)

pub loop-r-preserved : goal.loop-r-preserved
loop-r-preserved c = let l = c.loop-r in
    let more = rw c.rows_of-r-end.ensures at c.loop-r-test.true in
    let table = c.fill_spans.ensures in
    let known = ready _ _ _ _ _ _ _ _ _ c.requires c.rows_of-nodes.ensures table
    (omega (arith, table.cells, empty 2048 (record { least = 0; past = 0 }), c.requires.few_nodes)) c.first_variables.ensures in
    let here = statement_is _ _ _ _ _ _ _ known _ l.r l.q more l.invariant.0 _ c.row_at-row.ensures _ _
    c.cell.ensures c.cell-in-loop-r.ensures in (
      c.next_procedure-q.ensures ∙ procedure_next _ _ _ l.invariant.0,
      kept_next _ _ _ l.invariant.1 (sym here ∙ sym c.rule_by.ensures ∙ c.if-not-rule_by.false),
    )

pub returns : goal.returns
unfolding rules_by
returns c = scan_end _ _ _ c.loop-r.invariant.1 (rw c.rows_of-r-end.ensures at c.loop-r-test.false)
