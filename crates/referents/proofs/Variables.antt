-- Laws of the search for an object among variables that follow one another.
use mathlib.Core.Path.{◌≡◌, refl, sym, ◌∙◌, ap}
use mathlib.Core.Bool.{Bool, true, false}
use mathlib.Core.List.{List}
use Prim.Native.Nat.{ℕ, zero, suc, ◌+◌, ◌-◌, ◌≤◌, ◌<◌}
use native.Mathlib.Omega.{arith}
use native.Mathlib.Decide.{dec_le, dec_lt}
use borrow.Author.Tests.{le-leb, lt-leb}
use lib.Dec.{leb}
use Rattle.prelude.specs.Choice.{◌also◌}
use Rattle.prelude.proofs.Choice.{choose_yes, choose_no, also_left, also_right, also_pass}
use Rattle.image.specs.Rows.{row_at}
use Rattle.places.specs.Places.{width_by, room_by}
use Rattle.places.proofs.Rooms.{width_other, room_more}
use Rattle.semantics.proofs.Objects.{room_first}
use Rattle.asking.specs.Asking.{among_variables}
use Rattle.asking.proofs.Objects.{room_none}

module _ (deeper : ℕ → ℕ → Bool) (size : ℕ → ℕ) (v : List ℕ) where
  abbrev width : ℕ → ℕ
  width = width_by size v

  abbrev room : ℕ → ℕ → ℕ
  room = room_by size v

  -- whether variable row k has an object o cells into it
  abbrev pub inside : ℕ → ℕ → Bool
  inside k o = leb (row_at v k).kind 2 also deeper (row_at v k).a o

  abbrev search_from : ℕ → ℕ → ℕ → Bool
  search_from = among_variables deeper size v

  -- ---- one variable

  pub search_none : (k o : ℕ) → search_from k 0 o ≡ false
  unfolding among_variables
  search_none k o = refl

  search_here : (k n o : ℕ) → inside k o ≡ true → search_from k (suc n) o ≡ true
  unfolding among_variables
  search_here k n o e = choose_yes _ _ _ e

  search_stop : (k n o : ℕ) → inside k o ≡ false → o < width k → search_from k (suc n) o ≡ false
  unfolding among_variables
  search_stop k n o e h = choose_no _ _ _ e ∙ choose_no _ _ _ (lt-leb _ _ h)

  search_next : (k n o : ℕ) → inside k o ≡ false → width k ≤ o
      → search_from k (suc n) o ≡ search_from (k + 1) n (o - width k)
  unfolding among_variables
  search_next k n o e h = choose_no _ _ _ e ∙ choose_yes _ _ _ (le-leb _ _ h)

  -- ---- variables behind whose ends no object begins

  abbrev pub Ends : ℕ → ℕ → Type 0
  Ends k n = (j o : ℕ) → k ≤ j → j < k + n → size (row_at v j).a < o → deeper (row_at v j).a o ≡ false

  inside_past : (k n : ℕ) → Ends k (suc n) → (o : ℕ) → width k < o → inside k o ≡ false
  inside_past k n ends o h = go (dec_le (row_at v k).kind 2)
    where
      go : Dec ((row_at v k).kind ≤ 2) → inside k o ≡ false
      go (yes low) =
          let same = width_other size v k (λ e. absurd (omega arith)) in
          also_right _ (ends k o (omega arith) (omega arith) (omega (arith, same)))
      go (no high) = also_left _ (lt-leb (row_at v k).kind 2 (omega arith))

  ends_later : (k n : ℕ) → Ends k (suc n) → Ends (k + 1) n
  ends_later k n ends j o low high = ends j o (omega arith) (omega arith)

  -- those that end below an address are passed over
  search_from_later : (n k j x : ℕ) → Ends k n → j ≤ n → 0 < x
      → search_from k n (room k j + x) ≡ search_from (k + j) (n - j) x
  search_from_later n k zero x ends h some =
      let row : k + 0 ≡ k = omega arith in
      let all : n - 0 ≡ n = omega arith in
      let into : room k 0 + x ≡ x = omega (arith, room_none deeper size v k) in
      rw (row, all, into) refl
  search_from_later zero k (suc j) x ends h some = absurd (omega arith)
  search_from_later (suc n) k (suc j) x ends h some =
      let first = room_first size v k j in
      let row : k + suc j ≡ k + 1 + j = omega arith in
      let left : suc n - suc j ≡ n - j = omega arith in
      let into : room k (suc j) + x - width k ≡ room (k + 1) j + x = omega (arith, first) in
      rw (row, left)
      (search_next k n (room k (suc j) + x) (inside_past k n ends _ (omega (arith, first))) (omega (arith, first))
      ∙ ap (λ o. search_from (k + 1) n o) into
      ∙ search_from_later n (k + 1) j x (ends_later k n ends) (omega arith) some)

  -- behind the last of them none begins
  pub search_past : (n k o : ℕ) → Ends k n → room k n < o → search_from k n o ≡ false
  search_past zero k o ends h = search_none k o
  search_past (suc n) k o ends h =
      let first = room_first size v k n in
      search_next k n o (inside_past k n ends o (omega (arith, first))) (omega (arith, first))
      ∙ search_past n (k + 1) (o - width k) (ends_later k n ends) (omega (arith, first))

  -- ---- variables that stand from `lead` on, a row at a time

  module _ (k n lead at : ℕ) where
    -- where variable row j stands
    abbrev place : ℕ → ℕ
    place j = lead + room k (j - k)

    -- what is left to be searched from row j on
    abbrev pub left_from : ℕ → Bool
    left_from j = leb (place j) at also search_from j (k + n - j) (at - place j)

    -- the rows before j are passed over
    pub left_start : (j : ℕ) → Ends k n → k ≤ j → j ≤ k + n → (k < j → place j < at)
        → (leb lead at also search_from k n (at - lead)) ≡ left_from j
    left_start j ends least most below = go (dec_lt k j)
      where
        go : Dec (k < j) → (leb lead at also search_from k n (at - lead)) ≡ left_from j
        go (no h) =
            let row : j ≡ k = omega arith in
            let all : k + n - k ≡ n = omega arith in
            let none : k - k ≡ 0 = omega arith in
            let start : lead + 0 ≡ lead = omega arith in
            rw (row, all, none, room_none deeper size v k, start) refl
        go (yes h) =
            let under = below h in
            let into : at - lead ≡ room k (j - k) + (at - place j) = omega arith in
            let row : k + (j - k) ≡ j = omega arith in
            let rest : n - (j - k) ≡ k + n - j = omega arith in
            also_pass _ (le-leb lead at (omega arith))
            ∙ ap (λ o. search_from k n o) into
            ∙ search_from_later n k (j - k) (at - place j) ends (omega arith) (omega arith)
            ∙ rw (row, rest) (sym (also_pass _ (le-leb (place j) at (omega arith))))

    pub left_end : (j : ℕ) → k + n ≤ j → left_from j ≡ false
    left_end j h = let none : k + n - j ≡ 0 = omega arith in
        rw none (also_right _ (search_none j (at - place j)))

    module _ (j : ℕ) where
      pub left_below : at < place j → left_from j ≡ false
      left_below h = also_left _ (lt-leb _ _ h)

      module _ (more : j < k + n) (reaches : place j ≤ at) where
        left_is : left_from j ≡ search_from j (suc (k + n - (j + 1))) (at - place j)
        left_is =
            let one : k + n - j ≡ suc (k + n - (j + 1)) = omega arith in
            rw one (also_pass _ (le-leb _ _ reaches))

        pub left_here : inside j (at - place j) ≡ true → left_from j ≡ true
        left_here e = left_is ∙ search_here j _ _ e

        pub left_next : k ≤ j → inside j (at - place j) ≡ false → left_from j ≡ left_from (j + 1)
        left_next least e = go (dec_le (width j) (at - place j))
          where
            next : place (j + 1) ≡ place j + width j
            next =
                let row : k + (j - k) ≡ j = omega arith in
                let one : j + 1 - k ≡ suc (j - k) = omega arith in
                rw one (omega (arith, rw row at (room_more size v k (j - k))))

            go : Dec (width j ≤ at - place j) → left_from j ≡ left_from (j + 1)
            go (yes h) =
                let into : at - place j - width j ≡ at - place (j + 1) = omega (arith, next) in
                left_is ∙ search_next j _ _ e h ∙ ap (λ o. search_from (j + 1) (k + n - (j + 1)) o) into
                ∙ sym (also_pass _ (le-leb (place (j + 1)) at (omega (arith, next))))
            go (no h) =
                left_is ∙ search_stop j _ _ e (omega arith)
                ∙ sym (also_left _ (lt-leb (place (j + 1)) at (omega (arith, next))))
