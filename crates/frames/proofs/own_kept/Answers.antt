use Rattle.prelude.proofs.Choice.{tests}
use Rattle.prelude.specs.Choice.{◌also◌}
use native.Mathlib.Omega.{arith}
use Rattle.frames.specs.Procedures.{own_kept, claimed_by}
use Rattle.frames.proofs.own_kept.Goals as goal

pub returns-then-kinds_within : goal.returns-then-kinds_within
unfolding own_kept claimed_by ◌also◌
returns-then-kinds_within c = grind (arith, tests)

pub returns-else-kinds_within : goal.returns-else-kinds_within
unfolding own_kept claimed_by ◌also◌
returns-else-kinds_within c = grind (arith, tests)
