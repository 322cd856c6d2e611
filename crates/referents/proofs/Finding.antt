-- Laws of the search for an object at an address, in the globals or in a frame.
use mathlib.Core.Path.{◌≡◌, refl, sym, ◌∙◌}
use mathlib.Core.Bool.{Bool, true, false}
use mathlib.Core.List.{List, [], ◌∷◌}
use Prim.Native.Nat.{ℕ, ◌+◌, ◌-◌, ◌≤◌, ◌<◌}
use native.Mathlib.Omega.{arith}
use native.Mathlib.Decide.{dec_le}
use borrow.Author.Tests.{le-leb, lt-leb, eq-eqb}
use lib.Dec.{leb}
use lib.IntN.{ℤ}
use Rattle.prelude.specs.Choice.{choose, ◌also◌}
use Rattle.prelude.proofs.Choice.{also_pass}
use Rattle.image.specs.Rows.{row_at, rows_of}
use Rattle.frames.specs.Variables.{is_global, globals_of}
use Rattle.frames.specs.Procedures.{first_variable, claimed_by}
use Rattle.frames.proofs.Claiming.{globals_within}
use Rattle.places.proofs.Counting.{first_none}
use Rattle.checker.proofs.Accepted.{AcceptedTables}
use Rattle.semantics.specs.Layout.{Program}
use Rattle.semantics.specs.Running.{program_of, global_room}
use Rattle.semantics.proofs.Demand3.{program_accepted}
use Rattle.semantics.proofs.Objects.{global_kind, place_global}
use Rattle.asking.specs.Asking.{room_of, object_at}
use Rattle.asking.specs.Passes.{Walked, newest_below}
use Rattle.access.specs.Ready.{Planned}
use Rattle.access.proofs.Bounds.{procedures_few, place_in_lem}
use Rattle.unwinding.specs.declared.Spot.{Spot}
use Rattle.unwinding.specs.Links.{spot_of}
use Rattle.unwinding.specs.Blocks.{Blocks}
use Rattle.unwinding.specs.Going.{Newest, Oldest}
use Rattle.unwinding.proofs.Walking.{walked_procedure}
use Rattle.unwinding.proofs.Going.{newest_is}
use Rattle.referents.specs.Reaching.{Placed, in_places}
use Rattle.referents.specs.Reading.{Framed, Stacked}
use Rattle.referents.proofs.Frames.{claimed_there, object_global, object_newest}

-- a test and its second part, in the two ways of saying it
also_choose : (a b : Bool) → (a also b) ≡ choose a b false
unfolding ◌also◌ choose
also_choose true b = refl
also_choose false b = refl

-- behind the base, and behind the links
behind : (base at : ℕ) → base < at → leb 3 (at - base) ≡ leb (base + 3) at
behind base at h = go (dec_le (base + 3) at)
  where
    go : Dec (base + 3 ≤ at) → leb 3 (at - base) ≡ leb (base + 3) at
    go (yes l) = le-leb 3 (at - base) (omega arith) ∙ sym (le-leb (base + 3) at l)
    go (no l) = lt-leb 3 (at - base) (omega arith) ∙ sym (lt-leb (base + 3) at (omega arith))

module _ {image plan : List ℕ} (p : Planned image plan) where
  abbrev g : Program
  g = program_of image

  ok : AcceptedTables g.types g.fields g.variables g.procedures g.nodes g.statements
  ok = program_accepted image p.checked.accepted

  room_is : {room : ℕ} → room ≡ global_room g → room ≡ room_of g []
  unfolding room_of global_room
  room_is e = e

  -- ---- in the globals

  globals_placed : Placed g 0 (globals_of g.variables) 0
  unfolding is_global
  globals_placed j h =
      let row : 0 + j ≡ j = omega arith in
      rw row (place_global g ok j (eq-eqb (row_at g.variables j).kind 0 (global_kind g.variables j h))
      ∙ omega arith)

  module _ {n : ℕ} (count : n ≡ first_variable g.variables g.procedures 0) where
    globals_are : n ≡ globals_of g.variables
    globals_are = count ∙ first_none g.variables g.procedures

    pub globals_there : 0 + n ≤ rows_of g.variables
    globals_there = omega (arith, globals_are, globals_within g.variables)

    pub in_globals : {room at : ℕ} → room ≡ global_room g → at ≤ room → (w : ℕ) {x : Bool}
        → ((lead : ℕ) → Placed g 0 n lead → x ≡ in_places g w 0 n lead at) → (qs : List ℕ) → x ≡ object_at g w qs at
    in_globals {at = at} is h w answer qs =
        let all : at - 0 ≡ at = omega arith in
        answer 0 (rw globals_are globals_placed)
        ∙ also_pass _ (le-leb 0 at (omega arith))
        ∙ rw (globals_are, all) refl
        ∙ sym (object_global g ok w qs at (omega (arith, room_is is)))

  -- ---- in a frame

  frame_placed : (q : ℕ) → q < rows_of g.procedures
      → Placed g (first_variable g.variables g.procedures q) (claimed_by (row_at g.procedures q)) 3
  unfolding claimed_by
  frame_placed q low j h = place_in_lem p q j low h

  -- the frame that is found by the blocks, from the one at `from` on
  module _ {room at from top : ℕ} {store : List ℤ} {blocks : List ℕ} {s : Spot} (is : room ≡ global_room g)
      (behind : room < at) (low : at ≤ from) (small : from < 65536)
      (found : (g : Program) (qs older : List ℕ) (p b e : ℕ) → Walked g qs store b e → e ≤ top
      → rows_of g.procedures ≤ 64 → Blocks g qs blocks → room_of g [] < at → Oldest (p ∷ older) qs
      → from ≡ room_of g older → at ≤ from → s ≡ spot_of (newest_below g qs at)) where
    pub newest_found : {o : ℕ} {qs older : List ℕ} → Framed g store top blocks qs → Oldest (o ∷ older) qs
        → from ≡ room_of g older → Newest g qs store top at s
    newest_found {qs = qs} f oldest start =
        let above : room_of g [] < at = omega (arith, room_is is) in
        let this = found g qs _ _ f.base top f.walked (omega arith) (procedures_few p) f.blocked above oldest
        start low in
        rw this (newest_is g qs at f.walked above (omega arith))

    pub newest_stacked : (k : Stacked g store top blocks from) → Newest g k.frames store top at s
    newest_stacked k = newest_found k.framed k.oldest k.start

  module _ {qs : List ℕ} {store : List ℤ} {e at : ℕ} {s : Spot} (newest : Newest g qs store e at s) {first n : ℕ}
      (start : first ≡ first_variable g.variables g.procedures s.procedure)
      (count : n ≡ claimed_by (row_at g.procedures s.procedure)) where
    pub own_there : first + n ≤ rows_of g.variables
    own_there = rw (start, count) (claimed_there g ok _ (walked_procedure g newest.walked))

    pub in_newest : (w : ℕ) {x : Bool}
        → ((lead : ℕ) → Placed g first n lead → x ≡ in_places g w first n lead (at - s.base)) → x ≡ object_at g w qs at
    in_newest w answer =
        let into : at - s.base - 3 ≡ at - (s.base + 3) = omega arith in
        answer 3 (rw (start, count) (frame_placed _ (walked_procedure g newest.walked)))
        ∙ also_choose _ _
        ∙ rw (start, count, into, behind s.base at newest.below) refl
        ∙ sym (object_newest g ok w newest)
