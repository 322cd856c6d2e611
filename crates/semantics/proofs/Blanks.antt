-- Zeroed cells have values of the kinds that layouts and variables are made of.
use mathlib.Core.Path.{◌≡◌, refl, sym, ◌∙◌, ap}
use mathlib.Core.Bool.{true}
use mathlib.Core.List.{List, ◌++◌, map, append-nil}
use Prim.Native.Nat.{ℕ, zero, suc, ◌+◌, ◌≤◌, ◌<◌}
use native.Mathlib.Omega.{arith}
use borrow.Author.Tests.{leb-true}
use Rattle.prelude.specs.Parts.{joined}
use Rattle.prelude.proofs.Choice.{also_true}
use Rattle.prelude.proofs.Parts.{map_append}
use Rattle.prelude.proofs.Each.{Each, Each.none, Each.more, each_append}
use Rattle.image.specs.Rows.{row_at}
use Rattle.shapes.specs.Sizes.{layout_of}
use Rattle.shapes.proofs.Layouts.{layout_kinds}
use Rattle.frames.specs.Variables.{is_local, kind_within}
use Rattle.values.specs.Values.{Scalar}
use Rattle.values.proofs.Scalars.{below_scalar, scalar_zero}
use Rattle.semantics.specs.Memory.{Cell, tagged}
use Rattle.semantics.specs.Layout.{Program, kinds_of, kinds_from}
use Rattle.semantics.specs.Sound.{Want, Want.any_value, Fits, Fits.fits_value, Matched, Matched.no_more}
use Rattle.semantics.specs.Sound.{Matched.one_more, Frame, values_of, Slot, Slot.by_value}
use Rattle.names.specs.Names.{rows_from}
use Rattle.semantics.proofs.Objects.{kinds_value}

-- ---- a zeroed cell has a value of its kind

blank_fits : {k : ℕ} → Scalar k → Fits (tagged.blank k) (any_value k)
unfolding tagged
blank_fits scalar = let (v, e) = scalar_zero scalar in fits_value {v = v} refl e

-- and so have many, before others
pub blanks_fit : {kinds : List ℕ} {l : List Cell} {w : List Want} → Each Scalar kinds → Matched Fits l w
    → Matched Fits (map tagged.blank kinds ++ l) (map any_value kinds ++ w)
blanks_fit none h = h
blanks_fit (more scalar s) h = one_more (blank_fits scalar) (blanks_fit s h)

-- ---- variables that are no VAR parameters

pub local_low : (v : List ℕ) (k : ℕ) → is_local v k ≡ true → (row_at v k).kind ≤ 2
unfolding kind_within
local_low v k e = let most : (row_at v k).kind ≤ 1 = leb-true _ _ (also_true _ _ e).1 in omega arith

module _ (g : Program) where
  -- what the cells of n variables from row k on are to hold
  abbrev pub slots_from : ℕ → ℕ → List (List Want)
  slots_from k n = map (λ j. values_of g (row_at g.variables j).a) (rows_from k n)

  pub kinds_scalar : (n k : ℕ) → ((j : ℕ) → k ≤ j → j < k + n → (row_at g.variables j).kind ≤ 2)
      → Each Scalar (kinds_from g k n)
  unfolding kinds_from
  kinds_scalar zero k low = none
  kinds_scalar (suc n) k low =
      each_append {l = kinds_of g k}
      (rw (kinds_value g k (low k (omega arith) (omega arith)))
      (layout_kinds below_scalar g.types g.fields (row_at g.variables k).a))
      (kinds_scalar n (k + 1) (λ j a b. low j (omega arith) (omega arith)))

  pub slots_matched : (fs : List Frame) (n k : ℕ) → ((j : ℕ) → k ≤ j → j < k + n → (row_at g.variables j).kind ≤ 2)
      → Matched (Slot g fs) (rows_from k n) (slots_from k n)
  unfolding rows_from
  slots_matched fs zero k low = no_more
  slots_matched fs (suc n) k low =
      one_more (by_value (low k (omega arith) (omega arith)))
      (slots_matched fs n (k + 1) (λ j a b. low j (omega arith) (omega arith)))

  slots_kinds : (n k : ℕ) → ((j : ℕ) → k ≤ j → j < k + n → (row_at g.variables j).kind ≤ 2)
      → joined (slots_from k n) ≡ map any_value (kinds_from g k n)
  unfolding rows_from kinds_from joined values_of
  slots_kinds zero k low = refl
  slots_kinds (suc n) k low =
      let own : List ℕ = layout_of g.types g.fields (row_at g.variables k).a in
      rw (kinds_value g k (low k (omega arith) (omega arith)))
      (ap (λ l. map any_value own ++ l) (slots_kinds n (k + 1) (λ j a b. low j (omega arith) (omega arith)))
      ∙ sym (map_append any_value own (kinds_from g (k + 1) n)))

  -- their zeroed cells
  pub slots_fit : (n k : ℕ) → ((j : ℕ) → k ≤ j → j < k + n → (row_at g.variables j).kind ≤ 2)
      → Matched Fits (map tagged.blank (kinds_from g k n)) (joined (slots_from k n))
  slots_fit n k low =
      rw (
        slots_kinds n k low,
        ← append-nil (map tagged.blank (kinds_from g k n)),
        ← append-nil
            (map any_value (kinds_from g k n)),
      )
      (blanks_fit (kinds_scalar n k low) no_more)
