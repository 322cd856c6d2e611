use mathlib.Core.Path.{refl}
use Rattle.prelude.specs.Bits.{bit_of}
use Rattle.ancestors.proofs.holds.Goals as goal

pub returns : goal.returns
unfolding bit_of
returns c = refl
