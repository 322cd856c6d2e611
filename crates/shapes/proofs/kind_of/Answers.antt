use mathlib.Core.Path.{sym}
use Rattle.shapes.proofs.Singles.{scalar_kind, no_scalar}
use Rattle.shapes.proofs.kind_of.Goals as goal

pub returns-then-row-lt3 : goal.returns-then-row-lt3
returns-then-row-lt3 c = sym (scalar_kind _ c.if-row-lt3.true)

pub returns-else-row-lt3 : goal.returns-else-row-lt3
returns-else-row-lt3 c = sym (no_scalar _ c.if-row-lt3.false)
