-- The walk from the newest frame to the oldest: what is asked of all frames is asked of those that are left.
use mathlib.Core.Path.{◌≡◌, refl, sym, ◌∙◌, ap}
use mathlib.Core.Bool.{Bool, true, false}
use mathlib.Core.List.{List, [], ◌∷◌}
use Prim.Native.Nat.{ℕ, suc, ◌+◌, ◌-◌, ◌/◌, ◌≤◌, ◌<◌}
use native.Mathlib.Omega.{arith}
use native.Mathlib.Decide.{dec_lt}
use borrow.Author.Tests.{ltb-true, eqb-true, lt-ltb, eq-eqb, ne_eqb}
use lib.Dec.{eqb}
use lib.IntN.{ℤ, pos}
use lib.ListN.{length, get_or}
use Rattle.prelude.specs.Choice.{◌also◌}
use Rattle.prelude.specs.Cells.{Filled}
use Rattle.prelude.proofs.Choice.{choose_yes, choose_no, also_true, also_yes, clash, not_yes, same_truth}
use Rattle.prelude.proofs.Cells.{filled_at}
use Rattle.image.specs.Rows.{rows_of}
use Rattle.semantics.specs.Layout.{Program}
use Rattle.semantics.specs.Running.{program_of}
use Rattle.asking.specs.Asking.{room_of}
use Rattle.asking.specs.State.{natural_of, chain, call_kept, ends_at}
use Rattle.asking.specs.Passes.{linked, Walked}
use Rattle.access.specs.Ready.{Planned}
use Rattle.access.proofs.Bounds.{procedures_few}
use Rattle.unwinding.specs.declared.Spot.{Spot}
use Rattle.unwinding.specs.Links.{link_at, caller_of, size_kept, oldest_kept}
use Rattle.unwinding.specs.Blocks.{BLOCKS, BLOCK, NOWHERE, block_end, oldest_from, Blocks}
use Rattle.unwinding.proofs.Links.{link_is, link_back}
use Rattle.unwinding.proofs.Blocks.{block_begun, block_before, block_within, block_all, from_none, from_older}
use Rattle.unwinding.proofs.Walking.{frame, frame_links, natural, walked_base, walked_end, walked_links}
use Rattle.unwinding.proofs.Walking.{walked_procedure, walked_oldest, oldest_walked, Newer, walked_newer}
use Rattle.unwinding.proofs.Walking.{walked_older, newer_walked, tail_of, chain_is}
use Rattle.unwinding.proofs.Going.{other_called, caller_is}
use Rattle.unwinding.proofs.Bodies.{call_low}

-- ---- tests of frames

module _ (g : Program) (store : List ℤ) where
  -- what the walk asks of frames
  abbrev kept : List ℕ → ℕ → ℕ → Bool
  kept qs b e = ends_at g qs b e also linked g qs store

  kept_walked : {qs : List ℕ} {b e : ℕ} → kept qs b e ≡ true → Walked g qs store b e
  kept_walked said = let (a, b) = also_true _ _ said in record { ends = a; links = b }

  walked_kept : {qs : List ℕ} {b e : ℕ} → Walked g qs store b e → kept qs b e ≡ true
  walked_kept w = also_yes w.ends w.links

  tail_first : (n b : ℕ) → tail_of g store n 0 b ≡ []
  unfolding tail_of
  tail_first n b = choose_yes _ _ _ (eq-eqb 0 0 refl)

  tail_on : (n q b c z : ℕ) → (q ≡ 0 → ⊥) → get_or store b (pos 0) ≡ pos c → get_or store (b + 2) (pos 0) ≡ pos z → 1 ≤ n
      → tail_of g store n q b ≡ c ∷ tail_of g store (n - 1) c z
  unfolding tail_of
  tail_on n q b c z other x y some =
      let one : n ≡ suc (n - 1) = omega arith in
      choose_no _ _ _ (ne_eqb q 0 other)
      ∙ ap (λ (m : ℕ). chain g store m (natural_of (get_or store b (pos 0))) (natural_of (get_or store (b + 2) (pos 0)))) one
      ∙ rw (ap natural_of x ∙ natural c, ap natural_of y ∙ natural z) (chain_is g store (n - 1) c z)

  -- a frame ends where its size says
  walked_size : {q : ℕ} {qs : List ℕ} {b e : ℕ} → Walked g (q ∷ qs) store b e → size_kept g q b e ≡ true
  unfolding size_kept
  walked_size w = also_yes (lt-ltb _ _ (walked_procedure g w)) (eq-eqb _ _ (walked_end g w))

  size_both : (q b e : ℕ) → size_kept g q b e ≡ true → (q < rows_of g.procedures) × (e ≡ b + frame g q)
  unfolding size_kept
  size_both q b e said = let (x, y) = also_true _ _ said in (ltb-true _ _ x, eqb-true _ _ y)

  pub size_links : (q b e : ℕ) → size_kept g q b e ≡ true → b + 3 ≤ e
  size_links q b e said = omega (arith, (size_both q b e said).1, frame_links g q)

  -- ---- procedure 0's frame

  link_none : (top a : ℕ) → a < top → get_or store a (pos 0) ≡ pos 0 → eqb (link_at top store a) 0 ≡ true
  link_none top a low is = eq-eqb _ 0 (link_is top store a 0 low is (omega arith))

  first_oldest : (top b e : ℕ) → e ≤ top → Walked g (0 ∷ []) store b e → oldest_kept g top store b ≡ true
  unfolding oldest_kept
  first_oldest top b e within w =
      let o = walked_oldest g w in
      let own = walked_links g w in
      also_yes (eq-eqb b _ o.base)
      (also_yes (link_none top b (omega arith) o.is_caller)
      (also_yes (link_none top (b + 1) (omega arith) o.is_back) (link_none top (b + 2) (omega arith) o.is_base)))

  oldest_first : (top b e : ℕ) → e ≤ top → top ≤ length store → size_kept g 0 b e ≡ true
      → oldest_kept g top store b ≡ true → Walked g (0 ∷ []) store b e
  unfolding oldest_kept
  oldest_first top b e within long sized said =
      let (base, e₁) = also_true _ _ said in
      let (x, e₂) = also_true _ _ e₁ in
      let (y, z) = also_true _ _ e₂ in
      let (low, size) = size_both 0 b e sized in
      let own = size_links 0 b e sized in
      oldest_walked g (omega arith) (record {
        first = refl;
        procedure = low;
        base = eqb-true _ _ base;
        size = size;
        is_caller = link_back top store b 0 (eqb-true _ _ x) (omega arith);
        is_back = link_back top store (b + 1) 0 (eqb-true _ _ y) (omega arith);
        is_base = link_back top store (b + 2) 0 (eqb-true _ _ z) (omega arith);
      })

-- ---- the loop

module _ (g : Program) (store : List ℤ) (all : List ℕ) (base top : ℕ) where
  -- what is asked of all
  abbrev asked : Bool
  asked = kept g store all base top

  -- the blocks from `high` on are filled
  abbrev Noted : List ℕ → ℕ → Type 0
  Noted blocks high = asked ≡ true → (j : ℕ) → high ≤ j → j < BLOCKS
      → get_or blocks j 0 ≡ oldest_from g NOWHERE all (block_end j)

  -- for those before it the frame at `above` is known, and only these older ones are left
  abbrev Left : ℕ → ℕ → List ℕ → Type 0
  Left high above qs = asked ≡ true → (j : ℕ) → j < high
      → oldest_from g NOWHERE all (block_end j) ≡ oldest_from g above qs (block_end j)

  -- the loop stands at the frame of procedure q, from b to e
  pub record Along (blocks : List ℕ) (q b e high above : ℕ) : Type 0 where
    pub within : e ≤ top
    pub fuel : ℕ
    pub enough : b ≤ fuel
    pub same : asked ≡ kept g store (q ∷ tail_of g store fuel q b) b e
    pub few : high ≤ BLOCKS
    pub behind : e < block_end high
    pub done : Noted blocks high
    pub left : Left high above (q ∷ tail_of g store fuel q b)

  -- and is through with its blocks
  pub record Past (blocks : List ℕ) (q b fuel : ℕ) : Type 0 where
    pub done : Noted blocks (b / BLOCK)
    pub left : Left (b / BLOCK) b (tail_of g store fuel q b)

module _ {image plan : List ℕ} (p : Planned image plan) (store : List ℤ) (all : List ℕ) (base top : ℕ)
    (long : top ≤ length store) (most : length store ≤ 65536) where
  abbrev g : Program
  g = program_of image

  abbrev wanted : Bool
  wanted = asked g store all base top

  abbrev Stands : List ℕ → ℕ → ℕ → ℕ → ℕ → ℕ → Type 0
  Stands = Along g store all base top

  abbrev Done : List ℕ → ℕ → ℕ → ℕ → Type 0
  Done = Past g store all base top

  pub along_start : (q : ℕ) → all ≡ chain g store (suc base) q base → (blocks : List ℕ)
      → Stands blocks q base top BLOCKS NOWHERE
  along_start q is blocks =
      let frames = is ∙ chain_is g store base q base in
      record {
        within = omega arith;
        fuel = base;
        enough = omega arith;
        same = ap (λ (l : List ℕ). kept g store l base top) frames;
        few = omega arith;
        behind = block_all top (omega arith);
        done = λ said j h k. absurd (omega arith);
        left = λ said j h. ap (λ (l : List ℕ). oldest_from g NOWHERE l (block_end j)) frames;
      }

  module _ {blocks : List ℕ} {q b e high above : ℕ} (h : Stands blocks q b e high above) where
    walked : wanted ≡ true → Walked g (q ∷ tail_of g store h.fuel q b) store b e
    walked said = kept_walked g store (sym h.same ∙ said)

    -- the frame does not end where it should
    pub along_unsized : size_kept g q b e ≡ false → false ≡ wanted
    along_unsized short = sym (not_yes _ (λ said. clash (sym (walked_size g store (walked said)) ∙ short)))

    -- the block that it begins in
    pub along_block : size_kept g q b e ≡ true → b / BLOCK ≤ high
    along_block sized =
        let own = size_links g store q b e sized in
        block_within b high (omega (arith, h.behind))

    pub along_filled : size_kept g q b e ≡ true → {new : List ℕ}
        → Filled (b / BLOCK) (high - b / BLOCK) (λ j. above) blocks new → Done new q b h.fuel
    along_filled sized {new} filled = record {
      done = λ said j up few. go said j up few (dec_lt j high);
      left = λ said j low.
          let base = walked_base g (walked said) in
          let under = block_before b j low in
          h.left said j (omega (arith, along_block sized))
          ∙ from_older g above q (tail_of g store h.fuel q b) _ (omega arith)
          ∙ rw (← base);
    }
      where
        go : wanted ≡ true → (j : ℕ) → b / BLOCK ≤ j → j < BLOCKS → Dec (j < high)
            → get_or new j 0 ≡ oldest_from g NOWHERE all (block_end j)
        go said j up few (yes low) =
            let at : b / BLOCK + (j - b / BLOCK) ≡ j = omega arith in
            let base = walked_base g (walked said) in
            let begun = block_begun b j up in
            rw at at (filled.cell (j - b / BLOCK) (omega arith))
            ∙ sym (h.left said j low ∙ from_none g above q (tail_of g store h.fuel q b) _ (omega arith))
        go said j up few (no far) =
            filled.above j (omega (arith, along_block sized)) ∙ h.done said j (omega arith) few

    -- ---- procedure 0's

    pub along_first : q ≡ 0 → size_kept g q b e ≡ true → oldest_kept g top store b ≡ wanted
    along_first first sized =
        let none = tail_first g store h.fuel b in
        let same : wanted ≡ kept g store (0 ∷ []) b e = rw (first, none) at h.same in
        same_truth _ _
        (λ said. same ∙ walked_kept g store
        (oldest_first g store top b e h.within long (rw first at sized) said))
        (λ said. first_oldest g store top b e h.within (kept_walked g store (sym same ∙ said)))

    pub past_first : q ≡ 0 → {half new : List ℕ} → Done half q b h.fuel
        → Filled 0 (b / BLOCK - 0) (λ j. b) half new → wanted ≡ true → Blocks g all new
    unfolding oldest_from
    past_first first {half} {new} past filled said = record { each = λ j few. go j few (dec_lt j (b / BLOCK)) }
      where
        go : (j : ℕ) → j < BLOCKS → Dec (j < b / BLOCK) → get_or new j 0 ≡ oldest_from g NOWHERE all (block_end j)
        go j few (yes low) =
            let none = tail_first g store h.fuel b in
            let rest = rw (first, none) at (past.left said j low) in
            filled_at filled j (omega arith) ∙ sym rest
        go j few (no far) = filled.above j (omega arith) ∙ past.done said j (omega arith) few

    -- ---- any other's

    module _ (other : q ≡ 0 → ⊥) {x : Spot} {back : ℕ} (is_caller : x ≡ caller_of top store b)
        (is_back : back ≡ link_at top store (b + 1)) where
      -- what the links say of a frame as it should be
      called_links : (qs : List ℕ) → Walked g (q ∷ qs) store b e
          → (call_kept g q x.procedure back ≡ true) × (x.base < b)
      called_links [] w = absurd (other_called g other w)
      called_links (c ∷ qs) w =
          let own = walked_links g w in
          let up = h.within in
          let there = is_caller ∙ caller_is g w (procedures_few p) top up (omega arith) in
          let n = walked_newer g w in
          let small = (call_low p q c _ n.called).1 in
          let row = is_back ∙ link_is top store (b + 1) _ (omega arith) n.is_back (omega arith) in
          let older = walked_links g (walked_older g w) in
          rw (there, row) (n.called, omega arith)

      pub along_uncalled : call_kept g q x.procedure back ≡ false → false ≡ wanted
      along_uncalled none = sym (not_yes _ (λ said. clash (sym (called_links _ (walked said)).0 ∙ none)))

      pub along_unfallen : b ≤ x.base → false ≡ wanted
      along_unfallen up = sym (not_yes _ (λ said. let low = (called_links _ (walked said)).1 in absurd (omega arith)))

      newer_is : size_kept g q b e ≡ true → call_kept g q x.procedure back ≡ true → x.base < b
          → Newer g q x.procedure back x.base store b e
      unfolding caller_of
      newer_is sized called falls =
          let (low, size) = size_both g store q b e sized in
          let own = size_links g store q b e sized in
          let up = h.within in
          let (c, r) = call_low p q x.procedure back called in
          record {
            procedure = low;
            size = size;
            called = called;
            is_caller = link_back top store b _ (sym (ap (λ (s : Spot). s.procedure) is_caller)) c;
            is_back = link_back top store (b + 1) _ (sym is_back) r;
            is_base = link_back top store (b + 2) _ (sym (ap (λ (s : Spot). s.base) is_caller)) (omega arith);
          }

      -- the same frames, by the next one's
      next_same : (n : Newer g q x.procedure back x.base store b e) (qs : List ℕ) → b + 3 ≤ e
          → kept g store (q ∷ x.procedure ∷ qs) b e ≡ kept g store (x.procedure ∷ qs) x.base b
      next_same n qs own =
          let up = h.within in
          same_truth _ _
          (λ said.
          let w = kept_walked g store said in
          let is : pos x.base ≡ pos (room_of g qs) = sym n.is_base ∙ (walked_newer g w).is_base in
          let base : x.base ≡ room_of g qs = sym (natural _) ∙ ap natural_of is ∙ natural _ in
          rw base (walked_kept g store (walked_older g w)))
          (λ said. walked_kept g store (newer_walked g (omega arith) n (kept_walked g store said)))

      pub along_on : size_kept g q b e ≡ true → call_kept g q x.procedure back ≡ true → x.base < b → {new : List ℕ}
          → Done new q b h.fuel → Stands new x.procedure x.base b (b / BLOCK) b
      along_on sized called falls past =
          let n = newer_is sized called falls in
          let own = size_links g store q b e sized in
          let up = h.within in
          let room = h.enough in
          let tail = tail_on g store h.fuel q b x.procedure x.base other n.is_caller n.is_base
          (omega arith) in
          record {
            within = omega arith;
            fuel = h.fuel - 1;
            enough = omega arith;
            same = h.same ∙ ap (λ (l : List ℕ). kept g store (q ∷ l) b e) tail ∙ next_same n _ own;
            few = omega (arith, along_block sized, h.few);
            behind = block_begun b (b / BLOCK) (omega arith);
            done = past.done;
            left = λ said j low. past.left said j low ∙ ap (λ (l : List ℕ). oldest_from g b l (block_end j)) tail;
          }
