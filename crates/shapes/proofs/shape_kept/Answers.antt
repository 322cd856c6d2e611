use Rattle.std.proofs.Common.{arith}
use Rattle.std.proofs.lemmas.Grind.{common_steps}
use Rattle.prelude.specs.Choice.{choose, ◌also◌}
use Rattle.shapes.specs.Shapes.{shape_kept}
use Rattle.shapes.proofs.shape_kept.Goals as goal

pub returns-then-r-scalar_rows : goal.returns-then-r-scalar_rows
unfolding shape_kept ◌also◌ choose
returns-then-r-scalar_rows c = grind (arith, common_steps)

pub returns-else-r-scalar_rows : goal.returns-else-r-scalar_rows
unfolding shape_kept ◌also◌ choose
returns-else-r-scalar_rows c = grind (arith, common_steps)

pub returns-else-row-eq0 : goal.returns-else-row-eq0
unfolding shape_kept ◌also◌
returns-else-row-eq0 c = grind (arith, common_steps)
