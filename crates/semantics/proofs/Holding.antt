-- Laws of parts of lists, of lists that are related place by place, and of cells read and overwritten.
use mathlib.Core.Path.{◌≡◌, refl, sym, ◌∙◌, ap}
use mathlib.Core.List.{List, [], ◌∷◌, ◌++◌, append_assoc, append-nil}
use Prim.Native.Nat.{ℕ, zero, suc, ◌+◌, ◌-◌, ◌≤◌, ◌<◌}
use native.Mathlib.Nat.{zero-add, suc-add}
use native.Mathlib.Omega.{arith}
use lib.ListN.{length, get_or, take, drop, length-append, length-drop, take-append-drop}
use lib.Seq.{length-take-le, take-nil, take-append_seam, take-append-le, take-append-add, take-take}
use lib.Seq.{drop-drop, drop-append_seam, get_or-take}
use Rattle.prelude.specs.Parts.{Nth, Nth.here, Nth.there, Part}
use Rattle.prelude.proofs.Parts.{part_nth, part_part}
use Rattle.semantics.specs.Memory.{part_at, overwrite}
use Rattle.semantics.specs.Sound.{Matched, Matched.no_more, Matched.one_more}

-- ---- parts of lists

module _ {A : Type 0} where
  pub part_start : (l m : List A) → Part (l ++ m) 0 l
  part_start l m = record { rest = m; seen = refl; within = omega arith }

  pub part_next : {l xs : List A} {at : ℕ} {x : A} → Part l at (x ∷ xs) → Part l (at + 1) xs
  part_next {xs = xs} p = part_part p (record { rest = []; seen = sym (append-nil xs); within = omega arith })

  -- a part ends within its list
  pub part_end : {l xs : List A} {at : ℕ} → Part l at xs → at + length xs ≤ length l
  part_end {l} {xs} {at} p =
      let w = p.within in
      omega (arith, length-append xs p.rest, length-drop at l, ap length p.seen)

-- ---- lists related place by place

module _ {A B : Type 0} {R : A → B → Type 0} where
  pub matched_length : {l : List A} {w : List B} → Matched R l w → length l ≡ length w
  matched_length no_more = refl
  matched_length (one_more r h) = ap suc (matched_length h)

  pub matched_append : {l m : List A} {w x : List B} → Matched R l w → Matched R m x → Matched R (l ++ m) (w ++ x)
  matched_append no_more k = k
  matched_append (one_more r h) k = one_more r (matched_append h k)

  pub matched_take : (n : ℕ) {l : List A} {w : List B} → Matched R l w → Matched R (take n l) (take n w)
  matched_take zero h = no_more
  matched_take (suc n) no_more = no_more
  matched_take (suc n) (one_more r h) = one_more r (matched_take n h)

  pub matched_drop : (n : ℕ) {l : List A} {w : List B} → Matched R l w → Matched R (drop n l) (drop n w)
  matched_drop zero h = h
  matched_drop (suc n) no_more = no_more
  matched_drop (suc n) (one_more r h) = matched_drop n h

  -- what stands in a part
  pub matched_part : {l : List A} {w ws : List B} {at : ℕ} → Matched R l w → Part w at ws
      → Matched R (part_at l at (length ws)) ws
  unfolding part_at
  matched_part {ws = ws} {at} h p =
      let from = rw p.seen at (matched_drop at h) in
      rw (take-append_seam ws p.rest) at (matched_take (length ws) from)

  -- a part overwritten by what may stand in it
  pub matched_put : {l new : List A} {w ws : List B} {at : ℕ} → Matched R l w → Part w at ws → Matched R new ws
      → Matched R (overwrite l at new) w
  unfolding overwrite
  matched_put {new = new} {w} {ws} {at} h p k =
      let behind : drop (at + length new) w ≡ p.rest =
      sym (drop-drop (length new) at w) ∙ rw (p.seen, matched_length k) (drop-append_seam ws p.rest) in
      let whole : take at w ++ (ws ++ drop (at + length new) w) ≡ w = rw (behind, ← p.seen) (take-append-drop at w) in
      rw whole at (matched_append (matched_take at h) (matched_append k (matched_drop (at + length new) h)))

  matched_nth : (d : A) {l : List A} {w : List B} {n : ℕ} {b : B} → Matched R l w → Nth w n b → R (get_or l n d) b
  matched_nth d no_more x = elim x [ ]
  matched_nth d (one_more r h) here = r
  matched_nth d (one_more r h) (there k) = matched_nth d h k

  -- the cell where a part begins
  pub matched_at : {l : List A} {w ws : List B} {at : ℕ} {b : B} (d : A) → Matched R l w → Part w at (b ∷ ws)
      → R (get_or l at d) b
  matched_at d h p = matched_nth d h (part_nth p)

-- ---- cells below a place

module _ {A : Type 0} where
  drop_take : (m n : ℕ) (l : List A) → drop m (take (m + n) l) ≡ take n (drop m l)
  drop_take zero n l = ap (λ k. take k l) (zero-add n)
  drop_take (suc m) n [] = rw (take-nil {A = A} (suc m + n)) (sym (take-nil n))
  drop_take (suc m) n (x ∷ l) = ap (λ k. drop (suc m) (take k (x ∷ l))) (suc-add m n) ∙ drop_take m n l

  pub put_below : (l new : List A) (at top : ℕ) → at + length new ≤ top → top ≤ length l
      → take top (overwrite l at new) ≡ overwrite (take top l) at new
  unfolding overwrite
  put_below l new at top h low =
      let more : ℕ = top - (at + length new) in
      let front : length (take at l ++ new) ≡ at + length new =
      length-append (take at l) new ∙ rw (length-take-le at l (omega arith)) in
      let whole : length (take at l ++ new) + more ≡ top = omega (arith, front) in
      let room : at + length new + more ≡ top = omega arith in
      let behind : drop (at + length new) (take top l) ≡ take more (drop (at + length new) l) =
      rw room at (drop_take (at + length new) more l) in
      rw (
        take-take at top l (omega arith),
        behind,
        ← append_assoc (take at l) new (drop (at + length new) l),
        ← append_assoc (take at l) new (take more (drop (at + length new) l)),
      )
      (rw whole at (take-append-add (take at l ++ new) (drop (at + length new) l) more))

  pub put_above : (l new : List A) (at top : ℕ) → top ≤ at → at ≤ length l → take top (overwrite l at new) ≡ take top l
  unfolding overwrite
  put_above l new at top h low =
      take-append-le top (take at l) (new ++ drop (at + length new) l) (rw (length-take-le at l low) h)
      ∙ take-take top at l h

  pub put_length : (l new : List A) (at : ℕ) → at + length new ≤ length l → length (overwrite l at new) ≡ length l
  unfolding overwrite
  put_length l new at h =
      omega (
        arith,
        length-append (take at l) (new ++ drop (at + length new) l),
        length-append new (drop (at + length new) l),
        length-take-le at l (omega arith),
        length-drop (at + length new) l,
      )

  pub part_below : (l : List A) (at n top : ℕ) → at + n ≤ top → part_at (take top l) at n ≡ part_at l at n
  unfolding part_at
  part_below l at n top h =
      let more : ℕ = top - at in
      let room : at + more ≡ top = omega arith in
      ap (take n) (rw room at (drop_take at more l)) ∙ take-take n more (drop at l) (omega arith)

  pub cell_below : (l : List A) (d : A) (a top : ℕ) → a < top → get_or (take top l) a d ≡ get_or l a d
  cell_below l d a top h = get_or-take top l a d h
