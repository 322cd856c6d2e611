use native.Mathlib.Omega.{arith}
use mathlib.Core.Path.{refl}
use Rattle.objects.proofs.Joining.{one_shifted}
use Rattle.objects.proofs.Filling.{at_row}
use Rattle.objects.proofs.edges.Goals as goal

pub returns : goal.returns
returns c = λ w edges.
    at_row c.requires.0 w c.args.r c.requires.1 (c.part_edges-inner.ensures w edges)
    (one_shifted c.args.r (let few = c.requires.0.few in omega (arith, few, c.requires.1)))
    c.cell-size.ensures refl c.across.ensures
