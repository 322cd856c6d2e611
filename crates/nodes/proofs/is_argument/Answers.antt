use Rattle.prelude.proofs.Choice.{tests}
use Rattle.prelude.specs.Choice.{◌also◌}
use native.Mathlib.Omega.{arith}
use Rattle.nodes.specs.Nodes.{is_argument}
use Rattle.nodes.proofs.is_argument.Goals as goal

pub returns : goal.returns
unfolding is_argument ◌also◌
returns c = grind (arith, tests)
