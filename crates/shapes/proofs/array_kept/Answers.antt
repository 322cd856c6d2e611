use Rattle.std.proofs.Common.{arith}
use Rattle.std.proofs.lemmas.Grind.{common_steps}
use Rattle.prelude.specs.Choice.{◌also◌}
use Rattle.shapes.specs.Shapes.{array_kept}
use Rattle.shapes.proofs.array_kept.Goals as goal

pub returns-then-contains : goal.returns-then-contains
unfolding array_kept ◌also◌
returns-then-contains c = grind (arith, common_steps)

pub returns-else-contains : goal.returns-else-contains
unfolding array_kept ◌also◌
returns-else-contains c = grind (arith, common_steps)
