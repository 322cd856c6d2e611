use native.Mathlib.Omega.{arith}
use Rattle.access.proofs.Bounds.{types_few}
use Rattle.access.proofs.Loaded.size_of.Goals as goal

pub bounds-self-r : goal.bounds-self-r
bounds-self-r c = omega (arith, c.args.self.now.planned.checked.cells, types_few c.args.self.now.planned, c.requires)

pub returns : goal.returns
returns c = c.args.self.now.planned.checked.size _ c.requires
