use Rattle.prelude.proofs.Choice.{tests}
use Rattle.prelude.specs.Choice.{◌also◌}
use native.Mathlib.Omega.{arith}
use Rattle.frames.specs.Procedures.{body_kept}
use Rattle.frames.proofs.body_kept.Goals as goal

pub returns-then-a-statements : goal.returns-then-a-statements
unfolding body_kept ◌also◌
returns-then-a-statements c = grind (arith, tests)

pub returns-else-a-statements : goal.returns-else-a-statements
unfolding body_kept ◌also◌
returns-else-a-statements c = grind (arith, tests)
