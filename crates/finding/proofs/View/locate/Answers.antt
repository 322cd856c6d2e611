use mathlib.Core.Path.{sym, ◌∙◌}
use Rattle.prelude.specs.Choice.{choose}
use Rattle.semantics.specs.Finding.{designator, meaning_by}
use Rattle.finding.proofs.Laws.{find_row}
use Rattle.finding.proofs.View.locate.Goals as goal

pub returns-then-node-eq1 : goal.returns-then-node-eq1
unfolding meaning_by designator choose
returns-then-node-eq1 c =
    let node = c.node_at-node in
    c.variable_place.ensures ∙ sym (find_row _ _ _ _ _ _ node.result node.ensures 1 c.if-node-eq1.true)

pub returns : goal.returns
returns c = c.fresh.ensures ∙ c.find.ensures
