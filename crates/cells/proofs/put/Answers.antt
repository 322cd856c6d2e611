use Rattle.values.proofs.Numbers.{plain64}
use Rattle.cells.proofs.Overwriting.{overwrite_one}
use Rattle.cells.proofs.put.Goals as goal

pub returns : goal.returns
returns c = rw (plain64 _ c.ranges.z) (overwrite_one _ _ _ c.requires)
