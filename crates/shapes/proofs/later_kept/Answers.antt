use Rattle.std.proofs.Common.{arith}
use Rattle.std.proofs.lemmas.Grind.{common_steps}
use Rattle.prelude.specs.Choice.{choose}
use Rattle.shapes.specs.Shapes.{later_kept}
use Rattle.shapes.proofs.later_kept.Goals as goal

pub returns-in-3 : goal.returns-in-3
unfolding later_kept choose
returns-in-3 c = grind (arith, common_steps)

pub returns-in-4 : goal.returns-in-4
unfolding later_kept choose
returns-in-4 c = grind (arith, common_steps)

pub returns-in_default : goal.returns-in_default
unfolding later_kept choose
returns-in_default c = grind (arith, common_steps)
