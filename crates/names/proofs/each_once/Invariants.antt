use lib.ListN.{get_or}
use Rattle.image.specs.Faults.{KeptIn}
use Rattle.names.specs.declared.Often.TheVariants.{Never}
use Rattle.names.specs.Often.{is_once}
use Rattle.names.proofs.each_once.Given as goal

abbrev pub invariant-loop-k : goal.invariant-loop-k
invariant-loop-k l = KeptIn (λ j. is_once (get_or l.often j Never)) 0 l.k
