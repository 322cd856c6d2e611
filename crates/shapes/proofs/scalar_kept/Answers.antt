use Rattle.std.proofs.Common.{arith}
use Rattle.std.proofs.lemmas.Grind.{common_steps}
use Rattle.prelude.specs.Choice.{◌also◌}
use Rattle.shapes.specs.Shapes.{scalar_kept}
use Rattle.shapes.proofs.scalar_kept.Goals as goal

pub returns-then-row-eq0-2 : goal.returns-then-row-eq0-2
unfolding scalar_kept ◌also◌
returns-then-row-eq0-2 c = grind (arith, common_steps)

pub returns-else-row-eq0-2 : goal.returns-else-row-eq0-2
unfolding scalar_kept ◌also◌
returns-else-row-eq0-2 c = grind (arith, common_steps)
