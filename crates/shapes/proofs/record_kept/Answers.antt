use Rattle.std.proofs.Common.{arith}
use Rattle.std.proofs.lemmas.Grind.{common_steps}
use Rattle.prelude.specs.Choice.{◌also◌}
use Rattle.shapes.specs.Shapes.{record_kept}
use Rattle.shapes.proofs.record_kept.Goals as goal

pub returns-then-used-row : goal.returns-then-used-row
unfolding record_kept ◌also◌
returns-then-used-row c = grind (arith, common_steps)

pub returns-else-used-row : goal.returns-else-used-row
unfolding record_kept ◌also◌
returns-else-used-row c = grind (arith, common_steps)
