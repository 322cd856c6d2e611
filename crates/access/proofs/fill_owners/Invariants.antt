use mathlib.Core.Path.{◌≡◌}
use Rattle.prelude.specs.Cells.{Filled}
use Rattle.sizes.specs.Cells.{OWNERS}
use Rattle.statements.specs.Statements.{procedure_at}
use Rattle.access.proofs.fill_owners.Given as goal

abbrev pub invariant-loop-r : goal.invariant-loop-r
invariant-loop-r l = (l.q ≡ procedure_at l.p l.r) × Filled OWNERS l.r (procedure_at l.p) l.initial.plan l.plan
