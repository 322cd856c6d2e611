use mathlib.Core.Path.{◌∙◌, ap}
use lib.Bits.{bit_or, bit_xor}
use Rattle.prelude.specs.Bits.{bit_of}
use Rattle.objects.proofs.Joining.{one_shifted, without_bit}
use Rattle.objects.proofs.without.Goals as goal

pub returns : goal.returns
returns c = λ w. ap (λ own. bit_of (bit_xor (bit_or c.args.word own) own) w) (one_shifted c.args.i c.requires)
    ∙ without_bit c.args.word c.args.i w
