use mathlib.Core.Path.{◌≡◌, refl, sym, ◌∙◌}
use mathlib.Core.Bool.{Bool, true, false, not}
use denote.Enum.Bare.{sameb}
use Rattle.image.proofs.Faults.{kept_next, scan_bad, scan_end}
use Rattle.names.specs.contracts.Often.{the_type}
use Rattle.names.specs.declared.Often.{Often}
use Rattle.names.specs.declared.Often.TheVariants.{Never, Once, More}
use Rattle.names.specs.Often.{is_once}
use Rattle.names.proofs.each_once.Goals as goal

-- what `!=` says
other : (o : Often) {r : Bool} → r ≡ not (sameb the_type o Once) → r ≡ true → is_once o ≡ false
unfolding is_once
other Never e q = refl
other Once e q = sym q ∙ e
other More e q = refl

once : (o : Often) {r : Bool} → r ≡ not (sameb the_type o Once) → r ≡ false → is_once o ≡ true
unfolding is_once
once Never e q = sym q ∙ e
once Once e q = refl
once More e q = sym q ∙ e

pub returns-then-ne : goal.returns-then-ne
returns-then-ne c = scan_bad _ _ _ c.loop-k.invariant c.loop-k-test.true (other _ c.ne.ensures c.if-ne.true)

pub loop-k-preserved : goal.loop-k-preserved
loop-k-preserved c = kept_next _ _ _ c.loop-k.invariant (once _ c.ne.ensures c.if-ne.false)

pub returns : goal.returns
returns c = scan_end _ _ _ c.loop-k.invariant c.loop-k-test.false
