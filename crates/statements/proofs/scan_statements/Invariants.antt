use mathlib.Core.Path.{◌≡◌}
use Rattle.image.specs.Faults.{KeptIn}
use Rattle.statements.specs.Statements.{procedure_at, statement_kept}
use Rattle.statements.proofs.scan_statements.Given as goal

abbrev pub invariant-loop-r : goal.invariant-loop-r
invariant-loop-r l = (l.q ≡ procedure_at l.p l.r) × KeptIn (statement_kept l.n l.p l.s) 0 l.r
