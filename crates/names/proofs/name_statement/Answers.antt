use mathlib.Core.Path.{refl}
use Rattle.names.proofs.Naming.{call_named, statement_named}
use Rattle.names.proofs.name_statement.Goals as goal

pub returns-then-row-eq1 : goal.returns-then-row-eq1
returns-then-row-eq1 c =
    call_named _ _ c.statement_names_a.ensures refl c.name.ensures c.name-2.ensures
    c.if-row-eq1.true c.name_arguments.ensures

pub returns-else-row-eq1 : goal.returns-else-row-eq1
returns-else-row-eq1 c =
    statement_named _ _ c.statement_names_a.ensures refl c.name.ensures c.name-2.ensures c.if-row-eq1.false
