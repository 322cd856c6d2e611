use Rattle.rules.specs.Rules.{statement_rule}
use Rattle.statements.specs.Statements.{procedure_at}
use Rattle.typing.specs.Typing.{type_in}
use Rattle.image.specs.Faults.{KeptIn}
use mathlib.Core.Path.{◌≡◌}
use Rattle.rules.proofs.check_rules.Given as goal

abbrev pub invariant-loop-r : goal.invariant-loop-r
invariant-loop-r l = (l.q ≡ procedure_at l.p l.r) × KeptIn (statement_rule l.t l.v l.p l.n l.s (type_in l.types)) 0 l.r
