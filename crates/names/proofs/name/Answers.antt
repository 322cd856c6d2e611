use Rattle.names.proofs.Naming.{name_there, name_beyond, no_name}
use Rattle.names.proofs.name.Goals as goal
use Rattle.names.proofs.name.Goals.{else-named-via-then-named+else-row-often, else-named-via-else-named}

pub returns-then-row-often : goal.returns-then-row-often
returns-then-row-often c =
    name_there _ _ _ c.if-named.true c.if-row-often.true c.more.ensures

pub returns-else-named : goal.returns-else-named
returns-else-named c = elim c.else-named.branch [
  | else-named-via-then-named+else-row-often w ↦ name_beyond _ _ _ w.if-named.true w.if-row-often.false
  | else-named-via-else-named w ↦ no_name _ _ _ w.if-named.false
]
