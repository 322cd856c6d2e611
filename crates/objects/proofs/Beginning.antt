-- On accepted types the test says where objects begin.
use mathlib.Core.Path.{◌≡◌, refl, sym, ◌∙◌, ap}
use mathlib.Core.Bool.{Bool, true, false}
use mathlib.Core.List.{List, [], map}
use mathlib.Core.Logic.{◌⊎◌, inl, inr, ⊎_elim}
use Prim.Native.Nat.{ℕ, zero, suc, ◌≤◌, ◌<◌}
use native.Mathlib.Omega.{arith}
use borrow.Author.Tests.{eqb-true, eq-eqb, ne_eqb}
use lib.Dec.{eqb}
use lib.ListN.{replicate}
use Rattle.prelude.specs.Choice.{choose, ◌also◌}
use Rattle.prelude.specs.Parts.{sum, Nth}
use Rattle.prelude.proofs.Choice.{choose_yes, choose_no, choose_cases, also_true, also_yes, also_left, also_right}
use Rattle.prelude.proofs.Each.{each_nth}
use Rattle.prelude.proofs.Rec.{rec_eq, below_low}
use Rattle.image.specs.Rows.{row_at, rows_of}
use Rattle.shapes.specs.Sizes.{size_of, fields_of}
use Rattle.shapes.proofs.Accepted.{TypesKept}
use Rattle.shapes.proofs.ByKind.{array_row, array_size, no_fields, fields_low}
use Rattle.shapes.proofs.Layouts.{size_fields, decide}
use Rattle.objects.specs.Begins.{parts_of, Begins, Begins.itself, Begins.in_part, among, begins_at}
use Rattle.objects.proofs.Following.{either, many_size, nth_many, among_none, among_past, among_agree}
use Rattle.objects.proofs.Following.{among_some, some_among}

-- ---- parts by the kind

module _ (t f : List ℕ) (r : ℕ) where
  pub array_parts : (row_at t r).kind ≡ 3 → parts_of t f r ≡ replicate (row_at t r).b (row_at t r).a
  unfolding parts_of
  array_parts kind = choose_yes _ _ _ (eq-eqb _ 3 kind)

  pub other_parts : ((row_at t r).kind ≡ 3 → ⊥) → parts_of t f r ≡ fields_of t f r
  unfolding parts_of
  other_parts other = choose_no _ _ _ (ne_eqb _ 3 other)

module _ (t f : List ℕ) (kept : TypesKept t f) where
  -- ---- a part's type stands in a lower row

  pub parts_low : (r : ℕ) → r < rows_of t → {n u : ℕ} → Nth (parts_of t f r) n u → u < r
  parts_low r low {n} {u} x = go (decide (row_at t r).kind 3)
    where
      go : ((row_at t r).kind ≡ 3) ⊎ ((row_at t r).kind ≡ 3 → ⊥) → u < r
      go (inl kind) =
          let is = (array_row t f kept r low kind).low in
          omega (arith, nth_many (row_at t r).b (row_at t r).a (rw (array_parts t f r kind) at x))
      go (inr other) = each_nth (fields_low t f kept r low) (rw (other_parts t f r other) at x)

  -- ---- the parts have no more cells than the whole

  parts_size : (r : ℕ) → r < rows_of t → sum (map (size_of t f) (parts_of t f r)) ≤ size_of t f r
  parts_size r low = go (decide (row_at t r).kind 3) (decide (row_at t r).kind 4)
    where
      none : sum (map (size_of t f) []) ≡ 0
      none = unfold sum in refl

      go : ((row_at t r).kind ≡ 3) ⊎ ((row_at t r).kind ≡ 3 → ⊥) → ((row_at t r).kind ≡ 4) ⊎ ((row_at t r).kind ≡ 4 → ⊥)
          → sum (map (size_of t f) (parts_of t f r)) ≤ size_of t f r
      go (inl kind) d =
          rw (array_parts t f r kind)
          (omega (arith, many_size (size_of t f) (row_at t r).a (row_at t r).b, array_size t f kept r low kind))
      go (inr other) (inl kind) = rw (other_parts t f r other) (omega (arith, size_fields t f kept r low kind))
      go (inr other) (inr no_record) =
          rw (other_parts t f r other, no_fields t f kept r low no_record) (omega (arith, none))

  module _ (w : ℕ) where
    -- ---- the test as it reads

    pub begins_eq : (r o : ℕ) → r < rows_of t → begins_at t f w r o
        ≡ choose (eqb r w also eqb o 0) true (among (begins_at t f w) (size_of t f) (parts_of t f r) o)
    unfolding begins_at
    begins_eq r o low =
        ap (λ (g : ℕ → Bool). g o) (rec_eq (λ k. false)
        (λ deeper r o. choose (eqb r w also eqb o 0) true (among deeper (size_of t f) (parts_of t f r) o)) r)
        ∙ ap (λ b. choose (eqb r w also eqb o 0) true b)
        (among_agree _ _ (size_of t f) (size_of t f) (parts_of t f r) o
        (λ n u h. (λ x. ap (λ (g : ℕ → Bool). g x) (below_low (λ k. false) r _ u (parts_low r low h)), refl)))

    -- ---- nothing begins behind the end

    past_by : (m r o : ℕ) → r < m → r < rows_of t → size_of t f r < o → begins_at t f w r o ≡ false
    past_by zero r o h low more = absurd (omega arith)
    past_by (suc m) r o h low more =
        begins_eq r o low ∙ choose_no _ _ _ (also_right (eqb r w) (ne_eqb o 0 (omega arith)))
        ∙ among_past (begins_at t f w) (size_of t f) (parts_of t f r) o
        (λ n u x k l. let q = parts_low r low k in past_by m u x (omega arith) (omega arith) l)
        (let q = parts_size r low in omega arith)

    pub begins_past : (r o : ℕ) → r < rows_of t → size_of t f r < o → begins_at t f w r o ≡ false
    begins_past r o low more = past_by (suc r) r o (omega arith) low more

    -- ---- none begins in a type of a lower row, so none in its own parts

    none_by : (m r o : ℕ) → r < m → r < w → r < rows_of t → begins_at t f w r o ≡ false
    none_by zero r o h less low = absurd (omega arith)
    none_by (suc m) r o h less low =
        begins_eq r o low ∙ choose_no _ _ _ (also_left _ (ne_eqb r w (omega arith)))
        ∙ among_none (begins_at t f w) (size_of t f) (parts_of t f r) o
        (λ n u x k. let q = parts_low r low k in none_by m u x (omega arith) (omega arith) (omega arith))

    pub itself_none : (size : ℕ → ℕ) (o : ℕ) → w < rows_of t → among (begins_at t f w) size (parts_of t f w) o ≡ false
    itself_none size o low =
        among_none (begins_at t f w) size (parts_of t f w) o
        (λ n u x k. let q = parts_low w low k in none_by (suc u) u x (omega arith) q (omega arith))

    -- ---- the test and the relation are one

    yes_by : (m r o : ℕ) → r < m → r < rows_of t → begins_at t f w r o ≡ true → Begins t f w r o
    yes_by zero r o h low e = absurd (omega arith)
    yes_by (suc m) r o h low e =
        ⊎_elim
        (λ a.
        let (x, y) = also_true _ _ a.0 in
        let this : r ≡ w = eqb-true r w x in
        let first : o ≡ 0 = eqb-true o 0 y in
        rw (this, first) itself)
        (λ a.
        let s = among_some (begins_at t f w) (size_of t f) (parts_of t f r) o a.1 in
        let l = parts_low r low s.there in
        let part = yes_by m s.type s.into (omega arith) (omega arith) s.holds in
        rw s.place at (in_part {o = s.into} s.there part))
        (choose_cases (eqb r w also eqb o 0) (sym (begins_eq r o low) ∙ e))

    pub begins_yes : (r o : ℕ) → r < rows_of t → begins_at t f w r o ≡ true → Begins t f w r o
    begins_yes r o low e = yes_by (suc r) r o (omega arith) low e

    pub yes_begins : {r o : ℕ} → r < rows_of t → Begins t f w r o → begins_at t f w r o ≡ true
    yes_begins low itself = begins_eq w 0 low ∙ choose_yes _ _ _ (also_yes (eq-eqb w w refl) refl)
    yes_begins low (in_part {r = r} {u = u} {n = n} {o = o} h x) =
        let l = parts_low r low h in
        begins_eq r _ low ∙ either _ (some_among (begins_at t f w) (size_of t f) o h (yes_begins (omega arith) x))
