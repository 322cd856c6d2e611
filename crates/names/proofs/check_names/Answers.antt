use mathlib.Core.Path.{◌∙◌}
use Rattle.names.proofs.Naming.{never_yet, says_verdict}
use borrow.Author.Rules.{rules}
use Rattle.names.proofs.check_names.Goals as goal

pub count_names-requires : goal.count_names-requires
count_names-requires c = never_yet 2048

pub returns : goal.returns
returns c =
    let rows = c.rows_of-nodes.ensures in
    let few = c.requires in
    rw rows at c.each_once.ensures ∙ says_verdict _ _ _ _ c.count_names.ensures (search rules)
