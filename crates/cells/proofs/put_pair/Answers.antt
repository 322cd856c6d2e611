use mathlib.Core.List.{[], ◌∷◌}
use native.Mathlib.Omega.{arith}
use Rattle.values.proofs.Numbers.{plain64}
use Rattle.cells.proofs.Overwriting.{overwrite_one, set_behind}
use Rattle.cells.proofs.put_pair.Goals as goal

pub returns : goal.returns
returns c =
    let first = overwrite_one c.args.store.now c.args.a c.args.y (omega (arith, c.requires)) in
    rw (plain64 _ c.ranges.y, plain64 _ c.ranges.z, first)
    (set_behind _ (c.args.y ∷ []) _ _ c.requires)
