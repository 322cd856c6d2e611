use Rattle.prelude.proofs.Choice.{tests}
use Rattle.prelude.specs.Choice.{◌also◌}
use native.Mathlib.Omega.{arith}
use Rattle.nodes.specs.Nodes.{field_kept}
use Rattle.nodes.proofs.field_kept.Goals as goal

pub returns-then-designator_kept : goal.returns-then-designator_kept
unfolding field_kept ◌also◌
returns-then-designator_kept c = grind (arith, tests)

pub returns-else-designator_kept : goal.returns-else-designator_kept
unfolding field_kept ◌also◌
returns-else-designator_kept c = grind (arith, tests)
