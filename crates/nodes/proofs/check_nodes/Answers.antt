use mathlib.Core.Path.{sym, ◌∙◌}
use Rattle.image.proofs.Faults.{kept_none, kept_next, scan_bad, scan_end}
use Rattle.nodes.specs.Nodes.{question7}
use Rattle.nodes.proofs.Scanning.{filled_bad, form_bad, node_good}
use Rattle.nodes.proofs.check_nodes.Goals as goal
use Rattle.nodes.proofs.check_nodes.Goals.{then-row-ne0-via-then-row-ne0}
use Rattle.nodes.proofs.check_nodes.Goals.{then-row-ne0-via-else-row-ne0+then-not-node_form}

pub loop-r-init : goal.loop-r-init
loop-r-init c = kept_none _ _

pub returns-then-row-ne0 : goal.returns-then-row-ne0
unfolding question7
returns-then-row-ne0 c = let l = c.loop-r in
    rw (← c.rows_of-nodes.ensures, ← c.rows_of-variables.ensures, ← c.rows_of-types.ensures)
    (scan_bad _ _ _ l.invariant c.loop-r-test.true
    (elim c.then-row-ne0.branch [
      | then-row-ne0-via-then-row-ne0 w ↦ filled_bad _ _ _ _ _ _ c.row_at-row.ensures w.if-row-ne0.true
      | then-row-ne0-via-else-row-ne0+then-not-node_form w ↦
          form_bad _ _ _ _ _ _ c.row_at-row.ensures (sym w.node_form.ensures ∙ w.if-not-node_form.true)
    ]))

pub loop-r-preserved : goal.loop-r-preserved
loop-r-preserved c = let l = c.loop-r in
    let form = sym c.node_form.ensures ∙ c.if-not-node_form.false in
    kept_next _ _ _ l.invariant (node_good _ _ _ _ _ _ c.row_at-row.ensures c.if-row-ne0.false form)

pub returns : goal.returns
unfolding question7
returns c = let l = c.loop-r in
    rw (← c.rows_of-nodes.ensures, ← c.rows_of-variables.ensures, ← c.rows_of-types.ensures)
    (scan_end _ _ _ l.invariant c.loop-r-test.false)
