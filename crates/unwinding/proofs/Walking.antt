-- Frames one by one: what the links of each say, and that what they say is all that is asked.
use mathlib.Core.Path.{◌≡◌, refl, sym, ◌∙◌, ap}
use mathlib.Core.Bool.{true}
use mathlib.Core.List.{List, [], ◌∷◌}
use Prim.Native.Nat.{ℕ, suc, ◌+◌, ◌≤◌, ◌<◌}
use native.Mathlib.Omega.{arith}
use borrow.Author.Tests.{ltb-true, eqb-true, lt-ltb, eq-eqb}
use lib.Dec.{eqb}
use lib.IntN.{ℤ, pos}
use lib.ListN.{length, get_or, drop, length-drop}
use lib.Seq.{get_or-drop}
use Rattle.prelude.specs.Choice.{choose}
use Rattle.prelude.proofs.Choice.{also_true, also_yes, clash}
use Rattle.image.specs.Rows.{rows_of}
use Rattle.places.specs.Places.{frame_size}
use Rattle.semantics.specs.Layout.{Program}
use Rattle.asking.specs.Asking.{room_of}
use Rattle.asking.specs.State.{natural_of, chain, call_kept, links_kept, ends_at}
use Rattle.asking.specs.Passes.{frame_linked, linked, Walked}
use Rattle.asking.proofs.Built.{number_is}
use Rattle.asking.proofs.Told.{number_same}

pub natural : (m : ℕ) → natural_of (pos m) ≡ m
unfolding natural_of
natural m = refl

-- the first three cells from a place on
cells_are : (store l : List ℤ) (x y z : ℤ) (b : ℕ) → drop b store ≡ x ∷ y ∷ z ∷ l
    → (get_or store b (pos 0) ≡ x) × (get_or store (b + 1) (pos 0) ≡ y) × (get_or store (b + 2) (pos 0) ≡ z)
cells_are store l x y z b e = (rw none at (cell 0), cell 1, cell 2)
  where
    none : b + 0 ≡ b
    none = omega arith

    cell : (i : ℕ) → get_or store (b + i) (pos 0) ≡ get_or (x ∷ y ∷ z ∷ l) i (pos 0)
    cell i = sym (get_or-drop b store i (pos 0)) ∙ ap (λ (r : List ℤ). get_or r i (pos 0)) e

module _ (g : Program) where
  abbrev pub frame : ℕ → ℕ
  frame = frame_size g.types g.fields g.variables g.procedures

  -- ---- where frames begin and end

  pub room_more : (q : ℕ) (qs : List ℕ) → room_of g (q ∷ qs) ≡ room_of g qs + frame q
  unfolding room_of
  room_more q qs = refl

  -- a frame has its links
  pub frame_links : (q : ℕ) → 3 ≤ frame q
  unfolding frame_size
  frame_links q = omega arith

  -- the globals end below every frame's end
  pub room_least : (qs : List ℕ) → room_of g [] ≤ room_of g qs
  room_least [] = omega arith
  room_least (q ∷ qs) = omega (arith, room_least qs, room_more q qs)

  module _ {q : ℕ} {qs : List ℕ} {store : List ℤ} {b e : ℕ} (w : Walked g (q ∷ qs) store b e) where
    ends_both : (b ≡ room_of g qs) × (e ≡ room_of g (q ∷ qs))
    unfolding ends_at
    ends_both = let (x, y) = also_true _ _ w.ends in (eqb-true _ _ x, eqb-true _ _ y)

    pub walked_base : b ≡ room_of g qs
    walked_base = ends_both.0

    pub walked_room : room_of g (q ∷ qs) ≡ e
    walked_room = sym ends_both.1

    pub walked_end : e ≡ b + frame q
    walked_end = omega (arith, ends_both, room_more q qs)

    -- its links stand below its end
    pub walked_links : b + 3 ≤ e
    walked_links = omega (arith, walked_end, frame_links q)

  -- ---- what the links say

  -- of the oldest frame
  pub record OldestLinks (q : ℕ) (store : List ℤ) (b e : ℕ) : Type 0 where
    pub first : q ≡ 0
    pub procedure : q < rows_of g.procedures
    pub base : b ≡ room_of g []
    pub size : e ≡ b + frame q
    pub is_caller : get_or store b (pos 0) ≡ pos 0
    pub is_back : get_or store (b + 1) (pos 0) ≡ pos 0
    pub is_base : get_or store (b + 2) (pos 0) ≡ pos 0

  -- of a frame of procedure q that procedure c called, whose frame begins at z
  pub record Newer (q c back z : ℕ) (store : List ℤ) (b e : ℕ) : Type 0 where
    pub procedure : q < rows_of g.procedures
    pub size : e ≡ b + frame q
    pub called : call_kept g q c back ≡ true
    pub is_caller : get_or store b (pos 0) ≡ pos c
    pub is_back : get_or store (b + 1) (pos 0) ≡ pos back
    pub is_base : get_or store (b + 2) (pos 0) ≡ pos z

  three : (q : ℕ) (qs : List ℕ) (store l : List ℤ) (b : ℕ) → drop b store ≡ l → frame_linked g q qs l ≡ true
      → (q < rows_of g.procedures)
      × (links_kept g q qs (get_or store b (pos 0)) (get_or store (b + 1) (pos 0)) (get_or store (b + 2) (pos 0)) ≡ true)
  unfolding frame_linked
  three q qs store [] b at e = clash (sym e)
  three q qs store (x ∷ []) b at e = clash (sym e)
  three q qs store (x ∷ y ∷ []) b at e = clash (sym e)
  three q qs store (x ∷ y ∷ z ∷ l) b at e =
      let (low, links) = also_true _ _ e in
      let (a₀, a₁, a₂) = cells_are store l x y z b at in
      (ltb-true _ _ low, rw (a₀, a₁, a₂) links)

  from_three : (q : ℕ) (qs : List ℕ) (store l : List ℤ) (b : ℕ) → drop b store ≡ l → 3 ≤ length l
      → q < rows_of g.procedures
      → links_kept g q qs (get_or store b (pos 0)) (get_or store (b + 1) (pos 0)) (get_or store (b + 2) (pos 0)) ≡ true
      → frame_linked g q qs l ≡ true
  unfolding frame_linked
  from_three q qs store [] b at long low links = absurd (omega arith)
  from_three q qs store (x ∷ []) b at long low links = absurd (omega arith)
  from_three q qs store (x ∷ y ∷ []) b at long low links = absurd (omega arith)
  from_three q qs store (x ∷ y ∷ z ∷ l) b at long low links =
      let (a₀, a₁, a₂) = cells_are store l x y z b at in
      also_yes (lt-ltb _ _ low) (rw (← a₀, ← a₁, ← a₂) links)

  -- a frame's own links, and the others'
  parts : {q : ℕ} {qs : List ℕ} {store : List ℤ} {b e : ℕ} → Walked g (q ∷ qs) store b e
      → (linked g qs store ≡ true) × (q < rows_of g.procedures)
      × (links_kept g q qs (get_or store b (pos 0)) (get_or store (b + 1) (pos 0)) (get_or store (b + 2) (pos 0)) ≡ true)
  unfolding linked
  parts {q} {qs} {store} w =
      let (others, own) = also_true _ _ w.links in
      let (low, links) = three q qs store _ (room_of g qs) refl own in
      (others, low, rw (walked_base w) links)

  pub walked_procedure : {q : ℕ} {qs : List ℕ} {store : List ℤ} {b e : ℕ} → Walked g (q ∷ qs) store b e
      → q < rows_of g.procedures
  walked_procedure w = (parts w).1

  pub walked_oldest : {q : ℕ} {store : List ℤ} {b e : ℕ} → Walked g (q ∷ []) store b e → OldestLinks q store b e
  unfolding links_kept
  walked_oldest w =
      let (others, low, links) = parts w in
      let (first, l₁) = also_true _ _ links in
      let (x, l₂) = also_true _ _ l₁ in
      let (y, z) = also_true _ _ l₂ in
      record {
        first = eqb-true _ _ first;
        procedure = low;
        base = walked_base w;
        size = walked_end w;
        is_caller = number_is _ 0 x;
        is_back = number_is _ 0 y;
        is_base = number_is _ 0 z;
      }

  -- the return row, and what the links say
  pub walked_newer : {q c : ℕ} {qs : List ℕ} {store : List ℤ} {b e : ℕ} → Walked g (q ∷ c ∷ qs) store b e
      → Newer q c (natural_of (get_or store (b + 1) (pos 0))) (room_of g qs) store b e
  unfolding links_kept
  walked_newer w =
      let (others, low, links) = parts w in
      let (called, l₁) = also_true _ _ links in
      let (x, l₂) = also_true _ _ l₁ in
      let (y, z) = also_true _ _ l₂ in
      record {
        procedure = low;
        size = walked_end w;
        called = called;
        is_caller = number_is _ _ x;
        is_back = number_is _ _ y;
        is_base = number_is _ _ z;
      }

  -- the caller's frame ends where this one begins
  pub walked_older : {q c : ℕ} {qs : List ℕ} {store : List ℤ} {b e : ℕ} → Walked g (q ∷ c ∷ qs) store b e
      → Walked g (c ∷ qs) store (room_of g qs) b
  unfolding ends_at
  walked_older {qs = qs} {b = b} w = record {
    ends = also_yes (eq-eqb (room_of g qs) (room_of g qs) refl) (eq-eqb b _ (walked_base w));
    links = (parts w).0;
  }

  -- ---- and back

  whole : (q : ℕ) (qs : List ℕ) (store : List ℤ) (b e : ℕ) → b ≡ room_of g qs → e ≡ b + frame q → b + 3 ≤ length store
      → q < rows_of g.procedures → linked g qs store ≡ true
      → links_kept g q qs (get_or store b (pos 0)) (get_or store (b + 1) (pos 0)) (get_or store (b + 2) (pos 0)) ≡ true
      → Walked g (q ∷ qs) store b e
  unfolding ends_at linked
  whole q qs store b e base size long low others links =
      let room = length-drop b store in
      let own = from_three q qs store (drop b store) b refl (omega (arith, room)) low links in
      record {
        ends = also_yes (eq-eqb _ _ base) (eq-eqb _ _ (size ∙ ap (λ n. n + frame q) base ∙ sym (room_more q qs)));
        links = also_yes others (rw base at own);
      }

  pub oldest_walked : {q : ℕ} {store : List ℤ} {b e : ℕ} → b + 3 ≤ length store → OldestLinks q store b e
      → Walked g (q ∷ []) store b e
  unfolding links_kept linked
  oldest_walked long o =
      whole _ [] _ _ _ o.base o.size long o.procedure refl
      (also_yes (eq-eqb _ _ o.first)
      (also_yes (number_same _ _ o.is_caller)
      (also_yes (number_same _ _ o.is_back) (number_same _ _ o.is_base))))

  pub newer_walked : {q c back z : ℕ} {qs : List ℕ} {store : List ℤ} {b e : ℕ} → b + 3 ≤ length store
      → Newer q c back z store b e → Walked g (c ∷ qs) store z b → Walked g (q ∷ c ∷ qs) store b e
  unfolding links_kept
  newer_walked {q} {c} {back} {z} {qs} {store} {b} {e} long n w =
      let there : natural_of (get_or store (b + 1) (pos 0)) ≡ back = ap natural_of n.is_back ∙ natural back in
      let called : call_kept g q c (natural_of (get_or store (b + 1) (pos 0))) ≡ true = rw there n.called in
      whole q (c ∷ qs) store b e (sym (walked_room w)) n.size long n.procedure w.links
      (also_yes called
      (also_yes (number_same _ _ n.is_caller)
      (also_yes (number_same _ _ (n.is_back ∙ ap pos (sym there)))
      (number_same _ _ (n.is_base ∙ ap pos (walked_base w))))))

  -- ---- the frames that the links lead to

  module _ (store : List ℤ) where
    -- the older frames of one of procedure q at b, of which there are at most n
    unfoldable pub tail_of : ℕ → ℕ → ℕ → List ℕ
    tail_of n q b =
        choose (eqb q 0) []
        (chain g store n (natural_of (get_or store b (pos 0))) (natural_of (get_or store (b + 2) (pos 0))))

    -- the newest is the one that they lead from
    pub chain_is : (n q b : ℕ) → chain g store (suc n) q b ≡ q ∷ tail_of n q b
    unfolding chain tail_of
    chain_is n q b = refl
