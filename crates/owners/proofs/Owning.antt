-- A node's span lies among a procedure's variables exactly where each variable below it is global or the procedure's own.
use mathlib.Core.Path.{◌≡◌, refl, sym, ◌∙◌, ap}
use mathlib.Core.Bool.{Bool, true, false}
use mathlib.Core.List.{List}
use Prim.Native.Nat.{ℕ, ◌+◌, ◌≤◌, ◌<◌}
use native.Mathlib.Omega.{arith}
use native.Mathlib.Decide.{dec_lt, dec_le}
use borrow.Author.Tests.{lt-ltb, le-ltb, lt-leb, le-leb}
use lib.Dec.{leb, ltb, eqb}
use Rattle.prelude.specs.Choice.{choose, ◌also◌}
use Rattle.prelude.proofs.Choice.{choose_yes, choose_no, also_yes, also_left, also_right}
use Rattle.prelude.proofs.Rec.{rec_rel}
use Rattle.image.specs.declared.Row.{Row}
use Rattle.image.specs.Rows.{row_at, rows_of}
use Rattle.frames.specs.Variables.{is_global}
use Rattle.frames.specs.Procedures.{first_variable}
use Rattle.owners.specs.declared.Span.{Span}
use Rattle.owners.specs.Owners.{gather, gathered, own_variable, own_below, no_span, variable_span, join_span, span_of, within}

-- ---- what keeps none, one and both keeps what is gathered

module _ {X Y : Type 0} (h : X → Y) where
  pick : (b : Bool) {x y : X} {x' y' : Y} → h x ≡ x' → h y ≡ y' → h (choose b x y) ≡ choose b x' y'
  unfolding choose
  pick true p q = p
  pick false p q = q

  module _ (none : X) (one : ℕ → X) (both : X → X → X) (none' : Y) (one' : ℕ → Y) (both' : Y → Y → Y)
      (keeps_none : h none ≡ none') (keeps_one : (a : ℕ) → h (one a) ≡ one' a)
      (keeps_both : (x y : X) → h (both x y) ≡ both' (h x) (h y)) where
    gather_map : (g : ℕ → X) (g' : ℕ → Y) → ((k : ℕ) → h (g k) ≡ g' k) → (kind : ℕ) (row : Row)
        → h (gather none one both g kind row) ≡ gather none' one' both' g' kind row
    unfolding gather
    gather_map g g' same kind row =
        pick (eqb kind 1) (keeps_one row.a)
        (pick (eqb kind 2) (same row.a)
        (pick (eqb kind 3) two
        (pick (eqb kind 4) (keeps_one row.a)
        (pick (eqb kind 5) two
        (pick (eqb kind 6) (same row.a)
        (pick (eqb kind 7) (keeps_one row.a)
        (pick (eqb kind 8) (same row.a) keeps_none)))))))
      where
        two : h (both (g row.a) (g row.b)) ≡ both' (g' row.a) (g' row.b)
        two = keeps_both (g row.a) (g row.b) ∙ rw (same row.a, same row.b)

    pub gathered_map : (n : List ℕ) (r : ℕ) → h (gathered none one both n r) ≡ gathered none' one' both' n r
    unfolding gathered
    gathered_map n r =
        rec_rel none none'
        (λ child k. gather none one both child (row_at n k).kind (row_at n k))
        (λ child k. gather none' one' both' child (row_at n k).kind (row_at n k))
        (λ k x y. h x ≡ y)
        (λ k g g' low high. gather_map g g' (λ j. lower k g g' low high j (dec_lt j k)) (row_at n k).kind (row_at n k))
        r
      where
        lower : (k : ℕ) (g : ℕ → X) (g' : ℕ → Y) → ((j : ℕ) → j < k → h (g j) ≡ g' j) → ((j : ℕ) → k ≤ j → (g j ≡ none) × (g' j ≡ none'))
            → (j : ℕ) → Dec (j < k) → h (g j) ≡ g' j
        lower k g g' low high j (yes l) = low j l
        lower k g g' low high j (no l) =
            let (p, q) = high j (omega arith) in
            ap h p ∙ keeps_none ∙ sym q

-- ---- a span among a procedure's variables

least_both : (f x y : ℕ) → leb f (choose (leb x y) x y) ≡ (leb f x also leb f y)
least_both f x y = go (dec_le x y) (dec_le f x) (dec_le f y)
  where
    go : Dec (x ≤ y) → Dec (f ≤ x) → Dec (f ≤ y) → leb f (choose (leb x y) x y) ≡ (leb f x also leb f y)
    go (yes a) (yes b) c = let d : f ≤ y = omega arith in rw (choose_yes _ x y (le-leb x y a)) (le-leb f x b ∙ sym (also_yes (le-leb f x b) (le-leb f y d)))
    go (yes a) (no b) c = let e : x < f = omega arith in rw (choose_yes _ x y (le-leb x y a)) (lt-leb f x e ∙ sym (also_left _ (lt-leb f x e)))
    go (no a) b (yes c) =
        let e : y < x = omega arith in
        let d : f ≤ x = omega arith in
        rw (choose_no _ x y (lt-leb x y e)) (le-leb f y c ∙ sym (also_yes (le-leb f x d) (le-leb f y c)))
    go (no a) b (no c) =
        let e : y < x = omega arith in
        let d : y < f = omega arith in
        rw (choose_no _ x y (lt-leb x y e)) (lt-leb f y d ∙ sym (also_right (leb f x) (lt-leb f y d)))

past_both : (e x y : ℕ) → leb (choose (leb x y) y x) e ≡ (leb x e also leb y e)
past_both e x y = go (dec_le x y) (dec_le x e) (dec_le y e)
  where
    go : Dec (x ≤ y) → Dec (x ≤ e) → Dec (y ≤ e) → leb (choose (leb x y) y x) e ≡ (leb x e also leb y e)
    go (yes a) b (yes c) = let d : x ≤ e = omega arith in rw (choose_yes _ y x (le-leb x y a)) (le-leb y e c ∙ sym (also_yes (le-leb x e d) (le-leb y e c)))
    go (yes a) b (no c) = let d : e < y = omega arith in rw (choose_yes _ y x (le-leb x y a)) (lt-leb y e d ∙ sym (also_right (leb x e) (lt-leb y e d)))
    go (no a) (yes b) c =
        let d : y < x = omega arith in
        let g : y ≤ e = omega arith in
        rw (choose_no _ y x (lt-leb x y d)) (le-leb x e b ∙ sym (also_yes (le-leb x e b) (le-leb y e g)))
    go (no a) (no b) c =
        let d : y < x = omega arith in
        let g : e < x = omega arith in
        rw (choose_no _ y x (lt-leb x y d)) (lt-leb x e g ∙ sym (also_left _ (lt-leb x e g)))

also_swap : (a b c d : Bool) → ((a also b) also (c also d)) ≡ ((a also c) also (b also d))
unfolding ◌also◌
also_swap true true c d = refl
also_swap true false true d = refl
also_swap true false false d = refl
also_swap false b c d = refl

within_both : (first next : ℕ) (x y : Span) → within first next (join_span x y) ≡ (within first next x also within first next y)
unfolding within join_span
within_both first next x y =
    rw (least_both first x.least y.least, past_both next x.past y.past)
    (also_swap (leb first x.least) (leb first y.least) (leb x.past next) (leb y.past next))

leb_ltb : (a b : ℕ) → leb (a + 1) b ≡ ltb a b
leb_ltb a b = go (dec_lt a b)
  where
    go : Dec (a < b) → leb (a + 1) b ≡ ltb a b
    go (yes h) = le-leb (a + 1) b (omega arith) ∙ sym (lt-ltb a b h)
    go (no h) = lt-leb (a + 1) b (omega arith) ∙ sym (le-ltb a b (omega arith))

module _ (v p : List ℕ) (q : ℕ) (few : rows_of v ≤ 256) (first : first_variable v p q ≤ rows_of v) (next : first_variable v p (q + 1) ≤ rows_of v) where
  abbrev inside : Span → Bool
  inside = within (first_variable v p q) (first_variable v p (q + 1))

  inside_none : inside no_span ≡ true
  unfolding within
  inside_none = also_yes (le-leb (first_variable v p q) 65535 (omega arith)) (le-leb 0 (first_variable v p (q + 1)) (omega arith))

  inside_there : (a : ℕ) → Dec (a < rows_of v)
      → inside (choose (ltb a (rows_of v)) (record { least = a; past = a + 1 }) (record { least = 0; past = 65535 }))
      ≡ (leb (first_variable v p q) a also ltb a (first_variable v p (q + 1)))
  unfolding within
  inside_there a (yes h) = rw (choose_yes _ _ _ (lt-ltb a (rows_of v) h)) (ap (λ b. leb (first_variable v p q) a also b) (leb_ltb a (first_variable v p (q + 1))))
  inside_there a (no h) =
      rw (choose_no _ _ _ (le-ltb a (rows_of v) (omega arith)))
      (also_right _ (lt-leb 65535 (first_variable v p (q + 1)) (omega arith))
      ∙ sym (also_right _ (le-ltb a (first_variable v p (q + 1)) (omega arith))))

  inside_one : (a : ℕ) → inside (variable_span v a) ≡ own_variable v p q a
  unfolding variable_span own_variable
  inside_one a = pick inside (is_global v a) inside_none (inside_there a (dec_lt a (rows_of v)))

  -- the least and the last variable decide for all
  pub span_own : (n : List ℕ) (k : ℕ) → within (first_variable v p q) (first_variable v p (q + 1)) (span_of v n k) ≡ own_below v p n q k
  unfolding span_of own_below
  span_own n k =
      gathered_map inside no_span (variable_span v) join_span true (own_variable v p q) ◌also◌ inside_none inside_one
      (within_both (first_variable v p q) (first_variable v p (q + 1))) n k
