-- Laws of cells that are overwritten and copied.
use mathlib.Core.Path.{◌≡◌, refl, sym, ◌∙◌, ap}
use mathlib.Core.List.{List, [], ◌∷◌, ◌++◌, append_assoc, append-nil}
use Prim.Native.Nat.{ℕ, zero, suc, ◌+◌, ◌-◌, ◌≤◌, ◌<◌}
use native.Mathlib.Omega.{arith}
use native.Mathlib.Nat.{le_of_eq}
use lib.ListN.{length, get_or, set, take, drop, replicate, length-append, length-drop, length-replicate}
use lib.ListN.{take-append-drop, drop_of_length-le, get_or-append}
use lib.Seq.{length-take-le, take-suc, drop-cons, take_at, drop_at, drop-append-add, get_or-append-add, set_split}
use lib.Seq.{take-add, take_all, drop-drop, get_or-take, get_or-drop}
use Rattle.semantics.specs.Memory.{part_at, overwrite}
use Rattle.semantics.proofs.Holding.{put_length, put_above}

module _ {X : Type 0} where
  -- ---- parts

  -- a part has as many cells as were asked for
  pub part_length : (cells : List X) (a n : ℕ) → a + n ≤ length cells → length (part_at cells a n) ≡ n
  unfolding part_at
  part_length cells a n h = length-take-le n (drop a cells) (omega (arith, length-drop a cells))

  -- one cell more behind a part
  pub part_next : (cells : List X) (a n : ℕ) (d : X) → a + n < length cells
      → part_at cells a (n + 1) ≡ part_at cells a n ++ (get_or cells (a + n) d ∷ [])
  unfolding part_at
  part_next cells a n d h =
      let more : n + 1 ≡ suc n = omega arith in
      rw (more, take-suc (drop a cells) n d (omega (arith, length-drop a cells)), get_or-drop a cells n d)

  -- one cell more before a part
  pub part_before : (cells : List X) (a n : ℕ) (d : X) → a < length cells
      → part_at cells a (n + 1) ≡ get_or cells a d ∷ part_at cells (a + 1) n
  unfolding part_at
  part_before cells a n d h =
      let more : n + 1 ≡ suc n = omega arith in
      let next : a + 1 ≡ suc a = omega arith in
      rw (more, next, drop-cons cells a d h)

  -- ---- overwriting

  -- no cell overwritten
  pub overwrite_none : (cells : List X) (a : ℕ) → overwrite cells a [] ≡ cells
  unfolding overwrite
  overwrite_none cells a = let none : a + 0 ≡ a = omega arith in rw none (take-append-drop a cells)

  -- one cell
  pub overwrite_one : (cells : List X) (a : ℕ) (x : X) → a < length cells → set cells a x ≡ overwrite cells a (x ∷ [])
  unfolding overwrite
  overwrite_one cells a x h = let next : a + 1 ≡ suc a = omega arith in rw next (set_split cells a x h)

  -- the list stays as long as it was
  pub overwrite_length : (cells new : List X) (a : ℕ) → a + length new ≤ length cells
      → length (overwrite cells a new) ≡ length cells
  overwrite_length cells new a h = put_length cells new a h

  -- cells in the part of a list from top on
  pub overwrite_above : (cells new : List X) (top a : ℕ) → top ≤ length cells
      → take top cells ++ overwrite (drop top cells) a new ≡ overwrite cells (top + a) new
  unfolding overwrite
  overwrite_above cells new top a h =
      let place : top + (a + length new) ≡ top + a + length new = omega arith in
      rw (drop-drop (a + length new) top cells, place, take-add top a cells)
      (sym (append_assoc (take top cells) (take a (drop top cells)) (new ++ drop (top + a + length new) cells)))

  -- the part `&mut cells[top..]` that is lent, and the whole once it has come back
  pub lent_is : (cells : List X) (top : ℕ) → take (length cells - top) (drop top cells) ≡ drop top cells
  lent_is cells top = take_all (length cells - top) (drop top cells) (le_of_eq (length-drop top cells))

  pub lent_back : (cells part : List X) (top : ℕ)
      → take top cells ++ (part ++ drop (length cells - top) (drop top cells)) ≡ take top cells ++ part
  lent_back cells part top =
      rw (drop_of_length-le (drop top cells) {i = length cells - top} (le_of_eq (length-drop top cells)), append-nil)

  -- cells overwritten in that part
  pub overwrite_lent : (cells new part : List X) (top a : ℕ) → top ≤ length cells
      → part ≡ overwrite (take (length cells - top) (drop top cells)) a new
      → take top cells ++ (part ++ drop (length cells - top) (drop top cells)) ≡ overwrite cells (top + a) new
  overwrite_lent cells new part top a h e =
      rw (lent_back cells part top, e, lent_is cells top) (overwrite_above cells new top a h)

  -- the kept cells before a place, and the new ones from there on
  front_length : (cells new : List X) (a : ℕ) → a ≤ length cells → length (take a cells ++ new) ≡ a + length new
  front_length cells new a h = length-append (take a cells) new ∙ rw (length-take-le a cells h)

  -- the place behind two lists that begin at a
  both_length : (xs ys : List X) (a : ℕ) → a + length (xs ++ ys) ≡ a + length xs + length ys
  both_length xs ys a = omega (arith, length-append xs ys)

  -- further cells behind those overwritten
  pub overwrite_behind : (cells xs ys : List X) (a : ℕ) → a + length xs ≤ length cells
      → overwrite (overwrite cells a xs) (a + length xs) ys ≡ overwrite cells a (xs ++ ys)
  unfolding overwrite
  overwrite_behind cells xs ys a h =
      let front : List X = take a cells ++ xs in
      let back : List X = drop (a + length xs) cells in
      let size : length front ≡ a + length xs = front_length cells xs a (omega arith) in
      let kept : drop (a + length xs + length ys) (front ++ back) ≡ drop (a + length xs + length ys) cells =
      rw size at (drop-append-add front back (length ys)) ∙ drop-drop (length ys) (a + length xs) cells in
      rw (
        ← append_assoc (take a cells) xs back,
        take_at front back (a + length xs) size,
        kept,
        both_length xs ys a,
        append_assoc xs ys (drop (a + length xs + length ys) cells),
      )
      (append_assoc (take a cells) xs (ys ++ drop (a + length xs + length ys) cells))

  -- further cells before those overwritten
  pub overwrite_before : (cells xs ys : List X) (a : ℕ) → a + length xs ≤ length cells
      → overwrite (overwrite cells (a + length xs) ys) a xs ≡ overwrite cells a (xs ++ ys)
  unfolding overwrite
  overwrite_before cells xs ys a h =
      let back : List X = ys ++ drop (a + length xs + length ys) cells in
      rw (
        put_above cells ys (a + length xs) a (omega arith) h,
        drop_at (take (a + length xs) cells) back (a + length xs) (length-take-le (a + length xs) cells h),
        both_length xs ys a,
      )
      (ap (λ (l : List X). take a cells ++ l) (sym (append_assoc xs ys (drop (a + length xs + length ys) cells))))

  -- ---- cells that stay

  -- a cell before those overwritten
  pub cell_before : (cells new : List X) (a i : ℕ) (d : X) → i < a → a ≤ length cells
      → get_or (overwrite cells a new) i d ≡ get_or cells i d
  unfolding overwrite
  cell_before cells new a i d h low =
      get_or-append (take a cells) (new ++ drop (a + length new) cells) d i (rw (length-take-le a cells low) h)
      ∙ get_or-take a cells i d h

  -- a cell behind those overwritten
  pub cell_behind : (cells new : List X) (a i : ℕ) (d : X) → a + length new ≤ i → a ≤ length cells
      → get_or (overwrite cells a new) i d ≡ get_or cells i d
  unfolding overwrite
  cell_behind cells new a i d h low =
      let front : List X = take a cells ++ new in
      let size : length front ≡ a + length new = front_length cells new a low in
      let more : ℕ = i - (a + length new) in
      let place : a + length new + more ≡ i = omega arith in
      rw (← append_assoc (take a cells) new (drop (a + length new) cells))
      (rw (size, place) at (get_or-append-add front (drop (a + length new) cells) more d)
      ∙ rw place at (get_or-drop (a + length new) cells more d))

  -- ---- cells written one after the other

  -- one cell more behind those overwritten
  pub set_behind : (cells new : List X) (a : ℕ) (x : X) → a + length new < length cells
      → set (overwrite cells a new) (a + length new) x ≡ overwrite cells a (new ++ (x ∷ []))
  set_behind cells new a x h =
      overwrite_one (overwrite cells a new) (a + length new) x (rw (overwrite_length cells new a (omega arith)) h)
      ∙ overwrite_behind cells new (x ∷ []) a (omega arith)

  -- one cell more before those overwritten
  pub set_before : (cells new : List X) (a : ℕ) (x : X) → a + length new < length cells
      → set (overwrite cells (a + 1) new) a x ≡ overwrite cells a (x ∷ new)
  set_before cells new a x h =
      let size = overwrite_length cells new (a + 1) (omega arith) in
      overwrite_one (overwrite cells (a + 1) new) a x (rw size (omega arith))
      ∙ overwrite_before cells (x ∷ []) new a (omega arith)

  -- the same in one cell more, of those that a list begins with
  same_suc : (cells : List X) (n : ℕ) (x : X) → n < length cells
      → set (replicate n x ++ drop n cells) n x ≡ replicate (suc n) x ++ drop (suc n) cells
  same_suc [] n x h = absurd (omega arith)
  same_suc (y ∷ cells) zero x h = refl
  same_suc (y ∷ cells) (suc n) x h = ap (λ (l : List X). x ∷ l) (same_suc cells n x (omega arith))

  pub same_next : (cells : List X) (n : ℕ) (x : X) → n < length cells
      → set (replicate n x ++ drop n cells) n x ≡ replicate (n + 1) x ++ drop (n + 1) cells
  same_next cells n x h = let one : n + 1 ≡ suc n = omega arith in rw one (same_suc cells n x h)

  -- the same in all of a part, put back
  pub same_part : (cells part : List X) (a n : ℕ) (x : X) → a + n ≤ length cells
      → part ≡ replicate n x ++ drop n (part_at cells a n)
      → take a cells ++ (part ++ drop n (drop a cells)) ≡ overwrite cells a (replicate n x)
  unfolding overwrite
  same_part cells part a n x h e =
      let size = le_of_eq (part_length cells a n h) in
      rw (
        e,
        drop_of_length-le (part_at cells a n) {i = n} size,
        append-nil (replicate n x),
        drop-drop n a cells,
        length-replicate n x,
      )

  -- one cell more copied to a place not above it
  pub copy_next : (cells : List X) (from to n : ℕ) (d : X) → from + n < length cells → to ≤ from
      → set (overwrite cells to (part_at cells from n)) (to + n)
      (get_or (overwrite cells to (part_at cells from n)) (from + n) d)
      ≡ overwrite cells to (part_at cells from (n + 1))
  copy_next cells from to n d h low =
      let size = part_length cells from n (omega arith) in
      rw (
        cell_behind cells (part_at cells from n) to (from + n) d (omega (arith, size)) (omega arith),
        part_next cells from n d h,
      )
      (rw size at (set_behind cells (part_at cells from n) to (get_or cells (from + n) d) (omega (arith, size))))

  -- one cell more copied to a place not below it
  pub copy_before : (cells : List X) (from to n : ℕ) (d : X) → to + n < length cells → from ≤ to
      → set (overwrite cells (to + 1) (part_at cells (from + 1) n)) to
      (get_or (overwrite cells (to + 1) (part_at cells (from + 1) n)) from d)
      ≡ overwrite cells to (part_at cells from (n + 1))
  copy_before cells from to n d h low =
      let size = part_length cells (from + 1) n (omega arith) in
      rw (
        cell_before cells (part_at cells (from + 1) n) (to + 1) from d (omega arith) (omega arith),
        part_before cells from n d (omega arith),
      )
      (set_before cells (part_at cells (from + 1) n) to (get_or cells from d) (omega (arith, size)))

  -- one cell more copied to the part from top on, which is lent for it
  pub copy_lent : (old cells part : List X) (top from place n : ℕ) (d : X) → from + n < top
      → top + (place + n) < length old → cells ≡ overwrite old (top + place) (part_at old from n)
      → part ≡ overwrite (take (length cells - top) (drop top cells)) (place + n) (get_or cells (from + n) d ∷ [])
      → take top cells ++ (part ++ drop (length cells - top) (drop top cells))
      ≡ overwrite old (top + place) (part_at old from (n + 1))
  copy_lent old cells part top from place n d low room copied e =
      let new : List X = part_at old from n in
      let many : length new ≡ n = part_length old from n (omega arith) in
      let size : length cells ≡ length old =
      ap length copied ∙ overwrite_length old new (top + place) (omega (arith, many)) in
      let there : top + (place + n) ≡ top + place + length new = omega (arith, many) in
      overwrite_lent cells (get_or cells (from + n) d ∷ []) part top (place + n) (omega arith) e
      ∙ rw (
        there,
        copied,
        cell_before old new (top + place) (from + n) d (omega arith) (omega arith),
        part_next old from n d (omega arith),
      )
      (overwrite_behind old new (get_or old (from + n) d ∷ []) (top + place) (omega (arith, many)))
