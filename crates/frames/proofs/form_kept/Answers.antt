use Rattle.prelude.proofs.Choice.{tests}
use Rattle.prelude.specs.Choice.{choose, ◌also◌}
use native.Mathlib.Omega.{arith}
use Rattle.frames.specs.Variables.{form_kept}
use Rattle.frames.proofs.form_kept.Goals as goal

pub returns-then-row-ne0 : goal.returns-then-row-ne0
unfolding form_kept ◌also◌ choose
returns-then-row-ne0 c = grind (arith, tests)

pub returns-else-row-ne0 : goal.returns-else-row-ne0
unfolding form_kept ◌also◌ choose
returns-else-row-ne0 c = grind (arith, tests)

pub returns-else-row-eq0-3 : goal.returns-else-row-eq0-3
unfolding form_kept ◌also◌ choose
returns-else-row-eq0-3 c = grind (arith, tests)
