use native.Mathlib.Omega.{arith}
use Rattle.access.proofs.Bounds.{variables_few}
use Rattle.access.proofs.Loaded.place_of.Goals as goal

pub bounds-self-a : goal.bounds-self-a
bounds-self-a c = omega (arith, c.args.self.now.planned.checked.cells, variables_few c.args.self.now.planned, c.requires)

pub returns : goal.returns
returns c = c.args.self.now.planned.checked.place _ c.requires
