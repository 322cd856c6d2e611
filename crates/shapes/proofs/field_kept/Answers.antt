use Rattle.std.proofs.Common.{arith}
use Rattle.std.proofs.lemmas.Grind.{common_steps}
use Rattle.prelude.specs.Choice.{◌also◌}
use Rattle.shapes.specs.Shapes.{field_kept}
use Rattle.shapes.proofs.field_kept.Goals as goal

pub returns-then-row-eq0-3 : goal.returns-then-row-eq0-3
unfolding field_kept ◌also◌
returns-then-row-eq0-3 c = grind (arith, common_steps)

pub returns-else-row-eq0-3 : goal.returns-else-row-eq0-3
unfolding field_kept ◌also◌
returns-else-row-eq0-3 c = grind (arith, common_steps)
