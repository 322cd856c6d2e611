-- A loop over the variables of a frame, or the globals, that asks a test of each.
use mathlib.Core.Path.{◌≡◌, sym, ◌∙◌, ap}
use mathlib.Core.Bool.{Bool, true, false}
use mathlib.Core.List.{List}
use Prim.Native.Nat.{ℕ, zero, suc, ◌+◌, ◌-◌, ◌≤◌, ◌<◌}
use native.Mathlib.Omega.{arith}
use lib.IntN.{ℤ}
use lib.ListN.{drop}
use lib.Seq.{drop-drop}
use Rattle.prelude.specs.Choice.{◌also◌}
use Rattle.prelude.proofs.Choice.{also_left, also_pass}
use Rattle.shapes.specs.Sizes.{size_of}
use Rattle.places.specs.Places.{width_of, room_from, room_by}
use Rattle.places.proofs.Rooms.{room_more, room_up}
use Rattle.semantics.specs.Layout.{Program}
use Rattle.asking.specs.Passes.{variables_pass}

module _ (g : Program) (test : ℕ → List ℤ → Bool) where
  abbrev width : ℕ → ℕ
  width = width_of g.types g.fields g.variables

  -- of n variables from row k on, the first of which begins at `from`, those before row j passed; row j begins at `at`
  pub record Along (store : List ℤ) (k n from j at : ℕ) : Type 0 where
    pub least : k ≤ j
    pub most : j ≤ k + n
    pub place : at ≡ from + room_from g.types g.fields g.variables k (j - k)
    pub rest : variables_pass g test k n (drop from store) ≡ variables_pass g test j (k + n - j) (drop at store)

  pub along_start : (store : List ℤ) (k n from : ℕ) → Along store k n from k from
  unfolding room_by
  along_start store k n from =
      let none : k - k ≡ 0 = omega arith in
      let all : k + n - k ≡ n = omega arith in
      record { least = omega arith; most = omega arith; place = rw none (omega arith); rest = rw all }

  module _ {store : List ℤ} {k n from j at : ℕ} (h : Along store k n from j at) where
    -- row j's cells lie within those of all n
    pub along_room : j < k + n
        → at + width_of g.types g.fields g.variables j ≤ from + room_from g.types g.fields g.variables k n
    along_room low =
        let row : k + (j - k) ≡ j = omega (arith, h.least) in
        let up = rw row at (room_up (size_of g.types g.fields) g.variables k (j - k) n (omega (arith, h.least))) in
        rw h.place (omega arith)

    -- the test of row j decides, or the rest does
    asked : j < k + n
        → variables_pass g test k n (drop from store)
        ≡ (test j (drop at store) also variables_pass g test (j + 1) (k + n - (j + 1)) (drop (at + width j) store))
    unfolding variables_pass
    asked low =
        let more : k + n - j ≡ suc (k + n - (j + 1)) = omega arith in
        rw more at h.rest ∙ ap (λ l. test j (drop at store) also variables_pass g test (j + 1) (k + n - (j + 1)) l) (drop-drop (width j) at store)

    pub along_no : j < k + n → test j (drop at store) ≡ false → variables_pass g test k n (drop from store) ≡ false
    along_no low fails = asked low ∙ also_left _ fails

    pub along_more : {w : ℕ} → j < k + n → test j (drop at store) ≡ true
        → w ≡ width_of g.types g.fields g.variables j → Along store k n from (j + 1) (at + w)
    along_more {w} low passes width_is =
        let next : j + 1 - k ≡ suc (j - k) = omega (arith, h.least) in
        let row : k + (j - k) ≡ j = omega (arith, h.least) in
        let up = rw row at (room_more (size_of g.types g.fields) g.variables k (j - k)) in
        record {
          least = omega (arith, h.least);
          most = omega arith;
          place = rw (next, up, h.place, width_is) (omega arith);
          rest = asked low ∙ also_pass _ passes ∙ rw width_is;
        }

    pub along_end : k + n ≤ j → variables_pass g test k n (drop from store) ≡ true
    unfolding variables_pass
    along_end end =
        let none : k + n - j ≡ 0 = omega arith in
        h.rest ∙ rw none

  -- the same with rows left out: from the row reached up to before row j none has cells
  pub record Ahead (store : List ℤ) (k n from j at : ℕ) : Type 0 where
    pub reached : ℕ
    pub along : Along store k n from reached at
    pub less : reached ≤ j
    pub bare : (r : ℕ) → reached ≤ r → r < j → width_of g.types g.fields g.variables r ≡ 0

  -- where a row without cells passes, row j is reached, too
  module _ (free : (r : ℕ) (l : List ℤ) → width_of g.types g.fields g.variables r ≡ 0 → test r l ≡ true)
      {store : List ℤ} {k n from at : ℕ} where
    skipped : {i : ℕ} (m : ℕ) → Along store k n from i at → i + m ≤ k + n
        → ((r : ℕ) → i ≤ r → r < i + m → width r ≡ 0) → Along store k n from (i + m) at
    skipped {i} zero h most bare = let none : i + 0 ≡ i = omega arith in rw none h
    skipped {i} (suc m) h most bare =
        let here = bare i (omega arith) (omega arith) in
        let same : at + 0 ≡ at = omega arith in
        let row : i + 1 + m ≡ i + suc m = omega arith in
        let more = rw same at (along_more h (omega arith) (free i (drop at store) here) (sym here)) in
        rw row at (skipped {i = i + 1} m more (omega arith) (λ r low high. bare r (omega arith) (omega arith)))

    module _ {j : ℕ} (h : Ahead store k n from j at) where
      pub ahead_here : j < k + n → Along store k n from j at
      ahead_here low =
          let row : h.reached + (j - h.reached) ≡ j = omega (arith, h.less) in
          rw row at (skipped (j - h.reached) h.along (omega arith) (λ r least most. h.bare r least (omega arith)))

      pub ahead_room : j < k + n
          → at + width_of g.types g.fields g.variables j
          ≤ from + room_from g.types g.fields g.variables k n
      ahead_room low = along_room (ahead_here low) low

      pub ahead_no : j < k + n → test j (drop at store) ≡ false → variables_pass g test k n (drop from store) ≡ false
      ahead_no low fails = along_no (ahead_here low) low fails

      pub ahead_more : {w : ℕ} → j < k + n → test j (drop at store) ≡ true
          → w ≡ width_of g.types g.fields g.variables j → Along store k n from (j + 1) (at + w)
      ahead_more low passes width_is = along_more (ahead_here low) low passes width_is

      pub ahead_end : k + n ≤ j → variables_pass g test k n (drop from store) ≡ true
      ahead_end end =
          let most = h.along.most in
          let row : h.reached + (k + n - h.reached) ≡ k + n = omega arith in
          let all = skipped (k + n - h.reached) h.along (omega arith)
          (λ r least high. h.bare r least (omega arith)) in
          along_end (rw row at all) (omega arith)
