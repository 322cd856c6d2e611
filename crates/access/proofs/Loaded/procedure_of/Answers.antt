use native.Mathlib.Omega.{arith}
use Rattle.access.proofs.Bounds.{statements_few}
use Rattle.access.proofs.Loaded.procedure_of.Goals as goal

pub bounds-self-r : goal.bounds-self-r
bounds-self-r c = omega (arith, c.args.self.now.planned.checked.cells, statements_few c.args.self.now.planned, c.requires)

pub returns : goal.returns
returns c = c.requires.1.owner _ c.requires.0
