use mathlib.Core.Path.{◌≡◌, refl, ap, ◌∙◌}
use Prim.Native.Nat.{◌/◌}
use native.Mathlib.Omega.{arith}
use native.Mathlib.Nat.{div-mul-le_self}
use lib.ListN.{length}
use Rattle.cases_values.specs.Cases.{counted}
use Rattle.cases_values.proofs.Laws.{counted_more}
use Rattle.cases_values.proofs.count.Goals as goal

pub loop-k-init : goal.loop-k-init
unfolding counted
loop-k-init c = (omega arith, refl)

pub loop-k-preserved : goal.loop-k-preserved
loop-k-preserved c =
    (omega arith, counted_more _ _ _ _ c.loop-k.invariant.1 c.weight_at-n.ensures.0)
