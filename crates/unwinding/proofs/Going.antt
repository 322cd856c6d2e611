-- Loops over the frames: they begin at the newest, go on by `caller`, and are through at procedure 0's.
use mathlib.Core.Path.{◌≡◌, refl, sym, ◌∙◌, ap}
use mathlib.Core.Bool.{true}
use mathlib.Core.List.{List, [], ◌∷◌}
use Prim.Native.Nat.{ℕ, suc, ◌+◌, ◌-◌, ◌*◌, ◌≤◌, ◌<◌}
use native.Mathlib.Omega.{arith}
use native.Mathlib.Decide.{dec_lt}
use borrow.Author.Tests.{lt-ltb, le-ltb, eqb-true}
use lib.IntN.{ℤ, pos}
use lib.ListN.{get_or}
use Rattle.prelude.specs.Choice.{◌also◌}
use Rattle.prelude.proofs.Choice.{choose_yes, choose_no, also_true, clash}
use Rattle.image.specs.Rows.{row_at, rows_of}
use Rattle.image.proofs.Bytes.{row_there}
use Rattle.statements.proofs.Accepted.{call_is}
use Rattle.semantics.specs.Layout.{Program}
use Rattle.semantics.specs.Running.{program_of}
use Rattle.semantics.proofs.Demand3.{program_accepted}
use Rattle.asking.specs.Asking.{room_of}
use Rattle.asking.specs.State.{natural_of, chain, call_kept, ends_at}
use Rattle.asking.specs.Passes.{linked, Walked, newest_below}
use Rattle.asking.proofs.Objects.{object_older}
use Rattle.access.specs.Ready.{Planned}
use Rattle.unwinding.specs.declared.Spot.{Spot}
use Rattle.unwinding.specs.Links.{caller_of, spot_of}
use Rattle.unwinding.specs.Going.{Going, Newest, Oldest, Oldest.all, Oldest.newer}
use Rattle.unwinding.proofs.Links.{link_is, spot_is}
use Rattle.unwinding.proofs.Walking.{walked_base, walked_links}
use Rattle.unwinding.proofs.Walking.{walked_procedure, walked_oldest, walked_newer, walked_older}

module _ (g : Program) where
  -- ---- from a frame to its caller's

  -- `caller` finds it
  pub caller_is : {q c : ℕ} {qs : List ℕ} {store : List ℤ} {b e : ℕ} → Walked g (q ∷ c ∷ qs) store b e
      → rows_of g.procedures ≤ 64 → (top : ℕ) → e ≤ top → b ≤ 65536
      → caller_of top store b ≡ record { procedure = c; base = room_of g qs }
  unfolding caller_of
  caller_is {q} {c} {qs} {store} {b} {e} w few top within low =
      let own = walked_links g w in
      let n = walked_newer g w in
      let older = walked_older g w in
      let called = walked_procedure g older in
      let first = link_is top store b c (omega arith) n.is_caller (omega arith) in
      let begins = walked_links g older in
      let third = link_is top store (b + 2) (room_of g qs) (omega arith) n.is_base (omega arith) in
      rw (first, third)

  -- a frame of another procedure than 0 has a caller, and so has one that does not begin behind the globals
  pub other_called : {q : ℕ} {store : List ℤ} {b e : ℕ} → (q ≡ 0 → ⊥) → Walked g (q ∷ []) store b e → ⊥
  other_called other w = other (walked_oldest g w).first

  pub above_called : {q : ℕ} {store : List ℤ} {b e : ℕ} → room_of g [] < b → Walked g (q ∷ []) store b e → ⊥
  above_called above w = absurd (omega (arith, walked_base g w))

  -- ---- loops

  module _ {store : List ℤ} where
    -- at the newest frame, where the links are as they should be
    pub going_start : (Told : List ℕ → Type 0) (n q b e : ℕ)
        → (ends_at g (chain g store (suc n) q b) b e also linked g (chain g store (suc n) q b) store) ≡ true
        → Told (chain g store (suc n) q b) → Going g store Told q b e
    unfolding chain
    going_start Told n q b e kept told =
        let (ends, links) = also_true _ _ kept in
        record { older = _; walked = record { ends = ends; links = links }; told = told }

    -- one frame on, where `Next` is known of the older ones
    pub going_on : {Told : List ℕ → Type 0} (Next : List ℕ → Type 0) {q b e : ℕ} (h : Going g store Told q b e)
        → rows_of g.procedures ≤ 64 → (top : ℕ) → e ≤ top → b ≤ 65536 → (Walked g (q ∷ []) store b e → ⊥)
        → (Told (q ∷ h.older) → Next h.older)
        → {x : Spot} → x ≡ caller_of top store b → (x.base < b) × Going g store Next x.procedure x.base b
    going_on Next {q} {b} {e} h few top within low some next {x} is = go h.older h.walked (next h.told)
      where
        go : (qs : List ℕ) → Walked g (q ∷ qs) store b e → Next qs
            → (x.base < b) × Going g store Next x.procedure x.base b
        go [] w told = absurd (some w)
        go (c ∷ qs) w told =
            let there = is ∙ caller_is w few top within low in
            let older = walked_older g w in
            let own = walked_links g older in
            rw there (omega arith, record { older = qs; walked = older; told = told })

  -- ---- by address

  pub below_here : (q : ℕ) (qs : List ℕ) (at : ℕ) → room_of g qs < at
      → newest_below g (q ∷ qs) at ≡ q * 65536 + room_of g qs
  unfolding newest_below
  below_here q qs at h = choose_yes _ _ _ (lt-ltb _ _ h)

  pub below_older : (q : ℕ) (qs : List ℕ) (at : ℕ) → at ≤ room_of g qs → newest_below g (q ∷ qs) at ≡ newest_below g qs at
  unfolding newest_below
  below_older q qs at h = choose_no _ _ _ (le-ltb _ _ h)

  -- this frame begins below the address
  newest_here : {q : ℕ} {qs : List ℕ} {store : List ℤ} {b e : ℕ} → Walked g (q ∷ qs) store b e → (at : ℕ) → b < at
      → Newest g (q ∷ qs) store e at (record { procedure = q; base = b })
  newest_here {q} {qs} {e = e} w at low = record {
    older = qs;
    end = e;
    within = omega arith;
    walked = w;
    below = low;
    packed = rw (walked_base g w) (below_here q qs at (omega (arith, walked_base g w)));
    object = λ v a h. refl;
  }

  -- or an older one does
  newest_there : {q c : ℕ} {qs : List ℕ} {store : List ℤ} {b e : ℕ} → Walked g (q ∷ c ∷ qs) store b e → (at : ℕ)
      → at ≤ b → {s : Spot} → Newest g (c ∷ qs) store b at s → Newest g (q ∷ c ∷ qs) store e at s
  newest_there {q} {c} {qs} w at high n =
      let own = walked_links g w in
      let base = walked_base g w in
      record {
        older = n.older;
        end = n.end;
        within = omega (arith, n.within);
        walked = n.walked;
        below = n.below;
        packed = below_older q (c ∷ qs) at (omega arith) ∙ n.packed;
        object = λ w a h. object_older g w q (c ∷ qs) a (omega arith) ∙ n.object w a h;
      }

  some_newest : (qs : List ℕ) {store : List ℤ} {b e : ℕ} (at : ℕ) → Walked g qs store b e → room_of g [] < at
      → (s : Spot) × Newest g qs store e at s
  unfolding ends_at
  some_newest [] at w low = clash (sym w.ends)
  some_newest (q ∷ []) {b = b} at w low =
      (record { procedure = q; base = b }, newest_here w at (omega (arith, walked_base g w)))
  some_newest (q ∷ c ∷ qs) {store} {b} {e} at w low =
      go (dec_lt b at) (some_newest (c ∷ qs) at (walked_older g w) low)
    where
      go : Dec (b < at) → (s : Spot) × Newest g (c ∷ qs) store b at s
          → (s : Spot) × Newest g (q ∷ c ∷ qs) store e at s
      go (yes h) rest = (record { procedure = q; base = b }, newest_here w at h)
      go (no h) rest = (rest.0, newest_there w at (omega arith) rest.1)

  -- there is one for an address behind the globals
  pub newest_is : (qs : List ℕ) {store : List ℤ} {b e : ℕ} (at : ℕ) → Walked g qs store b e → room_of g [] < at
      → at ≤ 65536 → Newest g qs store e at (spot_of (newest_below g qs at))
  newest_is qs at w low small =
      let (s, n) = some_newest qs at w low in
      let is = ap spot_of n.packed ∙ spot_is s.procedure s.base (omega (arith, n.below)) in
      rw is n

  -- of walked frames the oldest, from that of procedure p on, are walked too and end no higher; what is sought at an
  -- address that is no higher than where this one begins is sought among them
  pub going_from : {p from : ℕ} {older qs : List ℕ} {store : List ℤ} {b e : ℕ} → Walked g qs store b e
      → Oldest (p ∷ older) qs → from ≡ room_of g older → (at : ℕ) → at ≤ from
      → (end : ℕ) × (end ≤ e) × Going g store (λ rest. newest_below g qs at ≡ newest_below g rest at) p from end
  going_from {older = older} {e = e} w all is at low =
      (e, omega arith, record { older = older; walked = rw (is ∙ sym (walked_base g w)) w; told = refl })
  going_from w (newer {qs = []} oldest) is at low = elim oldest [ ]
  going_from {qs = q ∷ c ∷ qs} w (newer oldest) is at low =
      let (end, most, h) = going_from (walked_older g w) oldest is at low in
      let own = walked_links g w in
      let begun = walked_links g h.walked in
      let told = below_older q (c ∷ qs) at (omega (arith, walked_base g w)) ∙ h.told in
      (end, omega arith, record { older = h.older; walked = h.walked; told = told })

-- ---- procedure 0

-- no call names it: its frame has no caller
pub first_alone : {image plan : List ℕ} → Planned image plan → {q : ℕ} {qs : List ℕ} {store : List ℤ} {b e : ℕ} → q ≡ 0
    → Walked (program_of image) (q ∷ qs) store b e → qs ≡ []
unfolding call_kept
first_alone {image} p {qs = []} first w = refl
first_alone {image} p {q} {qs = c ∷ qs} {store} {b} first w =
    let g = program_of image in
    let ok = program_accepted image p.checked.accepted in
    let n = walked_newer g w in
    let (some, c₁) = also_true _ _ n.called in
    let (kind, c₂) = also_true _ _ c₁ in
    let (this, c₃) = also_true _ _ c₂ in
    let row = natural_of (get_or store (b + 1) (pos 0)) - 1 in
    let call : (row_at g.statements row).kind ≡ 1 = eqb-true _ _ kind in
    let named : (row_at g.statements row).a ≡ q = eqb-true _ _ this in
    let here = row_there g.statements row (omega (arith, call)) in
    let other = (call_is g.nodes g.procedures g.statements ok.questions.statements row here call).other in
    absurd (omega (arith, named, other))
