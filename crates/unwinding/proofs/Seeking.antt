-- Seeking a frame by address, from a known one on.
use mathlib.Core.Path.{◌≡◌, sym, ◌∙◌, ap}
use mathlib.Core.List.{List, [], ◌∷◌}
use Prim.Native.Nat.{ℕ, ◌≤◌, ◌<◌}
use native.Mathlib.Omega.{arith}
use lib.IntN.{ℤ}
use Rattle.image.specs.Rows.{rows_of}
use Rattle.semantics.specs.Layout.{Program}
use Rattle.asking.specs.Asking.{room_of}
use Rattle.asking.specs.Passes.{Walked, newest_below}
use Rattle.unwinding.specs.declared.Spot.{Spot}
use Rattle.unwinding.specs.Links.{caller_of, spot_of}
use Rattle.unwinding.specs.Going.{Going, Oldest}
use Rattle.unwinding.proofs.Links.{spot_is}
use Rattle.unwinding.proofs.Walking.{walked_base, walked_links}
use Rattle.unwinding.proofs.Going.{above_called, going_on, below_here, below_older, going_from}

-- the loop stands at the frame at b, which does not begin below the address, and seeks among its older ones
pub record Seeking (g : Program) (qs : List ℕ) (store : List ℤ) (top at b : ℕ) : Type 0 where
  pub procedure : ℕ
  pub end : ℕ
  pub within : end ≤ top
  pub high : at ≤ b
  pub going : Going g store (λ rest. newest_below g qs at ≡ newest_below g rest at) procedure b end

module _ {g : Program} {qs : List ℕ} {store : List ℤ} {top at : ℕ} where
  pub seeking_start : {b e p base : ℕ} {older : List ℕ} → Walked g qs store b e → e ≤ top → Oldest (p ∷ older) qs
      → base ≡ room_of g older → at ≤ base → Seeking g qs store top at base
  seeking_start {p = p} w within oldest is high =
      let (end, most, going) = going_from g w oldest is at high in
      record { procedure = p; end = end; within = omega arith; high = high; going = going }

  -- the caller's frame begins lower: it is the one, or the loop goes on there
  pub seeking_on : {b : ℕ} → rows_of g.procedures ≤ 64 → room_of g [] < at → b ≤ 65536 → Seeking g qs store top at b
      → {x : Spot} → x ≡ caller_of top store b
      → (x.base < b) × (x.base < at → x ≡ spot_of (newest_below g qs at))
      × (at ≤ x.base → Seeking g qs store top at x.base)
  seeking_on {b} few above low s {x} is =
      let h = s.going in
      let base = walked_base g h.walked in
      let own = walked_links g h.walked in
      let up = s.high in
      let (less, next) = going_on g (λ rest. newest_below g qs at ≡ newest_below g rest at) h few top s.within low
      (above_called g (omega arith))
      (λ told. told ∙ below_older g s.procedure h.older at (omega arith)) is in
      let start = walked_base g next.walked in (
        less,
        λ there.
            sym (ap spot_of (next.told ∙ below_here g x.procedure next.older at (omega arith) ∙ rw (← start))
            ∙ spot_is x.procedure x.base (omega arith)),
        λ high. record {
          procedure = x.procedure;
          end = b;
          within = omega (arith, s.within);
          high = high;
          going = next;
        },
      )
