use mathlib.Core.Path.{◌≡◌}
use Prim.Native.Nat.{suc}
use lib.ListN.{length}
use Rattle.semantics.specs.Running.{program_of}
use Rattle.asking.specs.State.{chain}
use Rattle.unwinding.proofs.Along.{Along}
use Rattle.unwinding.proofs.walk.Given as goal

-- `unwinding::walk` meets its contract: what is asked of all frames is asked of those that are left.
abbrev pub invariant-loop-q : goal.invariant-loop-q
invariant-loop-q l =
    (length l.blocks ≡ length l.initial.blocks)
    × Along (program_of l.loaded.image.now) l.store (chain (program_of l.loaded.image.now) l.store (suc l.base) l.q l.base) l.base l.top l.blocks
    l.procedure l.start l.end l.high l.above

abbrev pub decreases-loop-q : goal.decreases-loop-q
decreases-loop-q l =
    l.start
