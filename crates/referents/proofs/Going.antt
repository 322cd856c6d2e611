-- What the loop over all frames knows at one of them.
use mathlib.Core.Path.{◌≡◌}
use mathlib.Core.Bool.{Bool}
use mathlib.Core.List.{List, ◌∷◌}
use Prim.Native.Nat.{ℕ, suc, ◌≤◌}
use native.Mathlib.Omega.{arith}
use lib.IntN.{ℤ}
use Rattle.semantics.specs.Layout.{Program}
use Rattle.semantics.specs.Running.{program_of}
use Rattle.asking.specs.Asking.{room_of}
use Rattle.asking.specs.State.{chain}
use Rattle.asking.specs.Passes.{reference_test}
use Rattle.unwinding.specs.Going.{Oldest}
use Rattle.unwinding.proofs.Over.{Over, frame_test, over_base, over_room}
use Rattle.referents.specs.Reading.{Framed, Stacked, Asked}

module _ (image : List ℕ) (store : List ℤ) (q base top : ℕ) {blocks : List ℕ}
    (asked : Asked (program_of image) store q base top blocks) where
  abbrev g : Program
  g = program_of image

  abbrev frames : List ℕ
  frames = chain g store (suc base) q base

  all_framed : Framed g store top blocks frames
  all_framed = record { base = base; walked = asked.walked; blocked = asked.blocked }

  module _ {p b : ℕ} (h : Over image (reference_test g) store q base top p b) where
    pub here_stacked : Stacked g store top blocks b
    here_stacked = record {
      frames = frames;
      framed = all_framed;
      procedure = p;
      older = h.going.older;
      oldest = h.going.told.oldest;
      start = over_base _ _ _ _ _ _ h;
      cells = asked.cells;
      small = asked.small;
      table = asked.table;
    }

    pub here_low : b ≤ 65536
    here_low = omega (arith, over_room _ _ _ _ _ _ h, asked.cells, asked.small)

    -- what is answered of the frame's references
    pub here_answer : {x : Bool}
        → ((o : ℕ) (qs older : List ℕ) → Framed g store top blocks qs → Oldest (o ∷ older) qs → b ≡ room_of g older
        → x ≡ frame_test image (reference_test g) store q base top older p b)
        → x ≡ frame_test image (reference_test g) store q base top h.going.older p b
    here_answer answer = answer p frames h.going.older all_framed h.going.told.oldest (over_base _ _ _ _ _ _ h)
