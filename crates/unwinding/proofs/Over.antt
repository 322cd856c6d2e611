-- A loop over the frames that asks a test of the variables of each.
use mathlib.Core.Path.{◌≡◌, refl, sym, ◌∙◌}
use mathlib.Core.Bool.{Bool, true, false}
use mathlib.Core.List.{List, ◌∷◌}
use Prim.Native.Nat.{ℕ, suc, ◌+◌, ◌≤◌, ◌<◌}
use native.Mathlib.Omega.{arith}
use lib.IntN.{ℤ}
use lib.ListN.{drop}
use Rattle.prelude.specs.Choice.{◌also◌}
use Rattle.prelude.proofs.Choice.{also_left, also_pass, also_yes}
use Rattle.image.specs.Rows.{row_at, rows_of}
use Rattle.frames.specs.Procedures.{first_variable, claimed_by}
use Rattle.places.specs.Places.{frame_size}
use Rattle.semantics.specs.Layout.{Program}
use Rattle.semantics.specs.Running.{program_of}
use Rattle.asking.specs.Asking.{room_of}
use Rattle.asking.specs.State.{chain}
use Rattle.asking.specs.Passes.{Walked, variables_pass, frames_pass}
use Rattle.access.specs.Ready.{Planned}
use Rattle.access.proofs.Bounds.{procedures_few}
use Rattle.unwinding.specs.declared.Spot.{Spot}
use Rattle.unwinding.specs.Links.{caller_of}
use Rattle.unwinding.specs.Going.{Going, Oldest, Oldest.all, Oldest.newer}
use Rattle.unwinding.proofs.Walking.{walked_base, walked_end, walked_links, walked_procedure}
use Rattle.unwinding.proofs.Going.{going_start, going_on, other_called, first_alone}

-- without the newest of them
pub oldest_tail : {q : ℕ} {older qs : List ℕ} → Oldest (q ∷ older) qs → Oldest older qs
oldest_tail all = newer all
oldest_tail (newer o) = newer (oldest_tail o)

module _ (image : List ℕ) (test : List ℕ → ℕ → List ℤ → Bool) (store : List ℤ) (q base top : ℕ) where
  abbrev g : Program
  g = program_of image

  -- all frames: from that of procedure q at base to the oldest
  abbrev frames : List ℕ
  frames = chain g store (suc base) q base

  -- these are left: all pass if they do
  pub record Left (rest : List ℕ) : Type 0 where
    pub oldest : Oldest rest frames
    pub same : frames_pass g test frames store ≡ frames_pass g test rest store

  -- the loop stands at the frame of procedure p at b
  pub record Over (p b : ℕ) : Type 0 where
    pub end : ℕ
    pub within : end ≤ top
    pub going : Going g store Left p b end

  -- what is asked of this frame's variables
  abbrev pub frame_test : List ℕ → ℕ → ℕ → Bool
  frame_test older p b =
      variables_pass g (test older) (first_variable g.variables g.procedures p)
      (claimed_by (row_at g.procedures p)) (drop (b + 3) store)

  -- at the newest
  pub over_start : Walked g frames store base top → Over q base
  over_start walked = record {
    end = top;
    within = omega arith;
    going = going_start g Left base q base top (also_yes walked.ends walked.links)
        (record { oldest = all; same = refl });
  }

  module _ {p b : ℕ} (h : Over p b) where
    pub over_procedure : p < rows_of g.procedures
    over_procedure = walked_procedure g h.going.walked

    -- the frame begins behind the older ones, and its cells lie below top
    pub over_base : b ≡ room_of g h.going.older
    over_base = walked_base g h.going.walked

    pub over_room : b + frame_size g.types g.fields g.variables g.procedures p ≤ top
    over_room = omega (arith, walked_end g h.going.walked, h.within)

    module _ {x : Bool} (answer : x ≡ frame_test h.going.older p b) where
      -- the test of this frame decides, or the older frames do
      asked : frames_pass g test frames store ≡ (x also frames_pass g test h.going.older store)
      unfolding frames_pass
      asked = h.going.told.same ∙ rw (answer, over_base)

      pub over_no : x ≡ false → false ≡ frames_pass g test frames store
      over_no fails = sym (asked ∙ also_left _ fails)

      module _ {plan : List ℕ} (planned : Planned image plan) (passes : x ≡ true) where
        -- procedure 0's is the oldest
        pub over_end : p ≡ 0 → true ≡ frames_pass g test frames store
        unfolding frames_pass
        over_end first =
            let alone = first_alone planned first h.going.walked in
            sym (asked ∙ also_pass _ passes ∙ rw alone)

        -- the caller's frame is next
        pub over_on : b ≤ 65536 → (p ≡ 0 → ⊥) → {s : Spot} → s ≡ caller_of top store b
            → (s.base < b) × Over s.procedure s.base
        over_on low other is =
            let (less, going) = going_on g Left h.going (procedures_few planned) top h.within low
            (other_called g other)
            (λ told. record { oldest = oldest_tail told.oldest; same = asked ∙ also_pass _ passes }) is in
            let within = walked_links g h.going.walked in
            (less, record { end = b; within = omega (arith, h.within); going = going })
