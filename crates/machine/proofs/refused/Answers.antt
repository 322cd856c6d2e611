use mathlib.Core.Path.{refl}
use Rattle.semantics.specs.Running.{refused_with}
use Rattle.machine.proofs.refused.Goals as goal

pub returns : goal.returns
unfolding refused_with
returns c = refl
