use native.Mathlib.Omega.{arith}
use Rattle.access.proofs.Bounds.{procedures_few}
use Rattle.access.proofs.Loaded.frame_size.Goals as goal

pub bounds-self-q : goal.bounds-self-q
bounds-self-q c = omega (arith, c.args.self.now.planned.checked.cells, procedures_few c.args.self.now.planned, c.requires)

pub returns : goal.returns
returns c = c.args.self.now.planned.checked.frame _ c.requires
