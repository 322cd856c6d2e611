use mathlib.Core.Path.{◌≡◌}
use Prim.Native.Nat.{ℕ}
use Rattle.semantics.specs.Running.{program_of}
use Rattle.referents.specs.Reaching.{Firsts, Ahead, left_places}
use Rattle.referents.proofs.starts_there.Given as goal

abbrev pub invariant-loop-j : goal.invariant-loop-j
invariant-loop-j l =
    (i n lead : ℕ) → Firsts (program_of l.loaded.image.now) l.w l.starts → Ahead (program_of l.loaded.image.now) i n lead l.at l.k l.e
    → Ahead (program_of l.loaded.image.now) i n lead l.at l.j l.e
    × (left_places (program_of l.loaded.image.now) l.w i n lead l.at l.k ≡ left_places (program_of l.loaded.image.now) l.w i n lead l.at l.j)
