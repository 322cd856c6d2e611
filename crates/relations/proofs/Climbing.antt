-- Laws of the walk up a record's bases, a row at a time.
use Rattle.std.specs.Prelude.{None}
use mathlib.Core.Path.{◌≡◌, refl, sym, ◌∙◌, ap}
use mathlib.Core.Bool.{true, false}
use mathlib.Core.List.{List}
use Prim.Native.Nat.{ℕ, ◌+◌, ◌-◌, ◌≤◌, ◌<◌}
use borrow.Author.Tests.{eq-eqb, ne_eqb, lt-ltb, le-ltb}
use lib.Dec.{eqb, ltb}
use lib.ListN.{get_or}
use Rattle.prelude.specs.Choice.{choose}
use Rattle.prelude.specs.Rec.{below}
use Rattle.prelude.proofs.Choice.{choose_yes, choose_no}
use Rattle.prelude.proofs.Rec.{rec_eq, below_low, below_high}
use Rattle.image.specs.declared.Row.{Row}
use Rattle.image.specs.Rows.{row_at}
use Rattle.shapes.specs.Forms.{form_of, form, base_of, of_base}
use Rattle.relations.specs.Extends.{extends_to}
use Rattle.relations.specs.Fields.{planned_own, planned_by, planned_field}
use Rattle.shapes.proofs.Rows.{of_no_base, of_base_lem, form_record, by_form, row_form}
use Rattle.sizes.specs.Cells.{INHERITED}

-- what a base gives: nothing where there is none, or none below
module _ {X : Type 0} (none : X) (g : ℕ → X) (r a : ℕ) where
  pub up_none : a ≡ 0 → of_base none (below none r g) a ≡ none
  up_none e = of_no_base none (below none r g) a e

  pub up_high : 0 < a → r ≤ a - 1 → of_base none (below none r g) a ≡ none
  up_high h l = of_base_lem none (below none r g) a h ∙ below_high none r g (a - 1) l

  pub up_low : 0 < a → a - 1 < r → of_base none (below none r g) a ≡ g (a - 1)
  up_low h l = of_base_lem none (below none r g) a h ∙ below_low none r g (a - 1) l

-- ---- extension

module _ (t : List ℕ) (u r : ℕ) where
  pub extends_eq : extends_to t u r ≡ choose (eqb r u) true (of_base false (below false r (extends_to t u)) (base_of (form t r)))
  unfolding extends_to
  extends_eq = rec_eq false (λ extends r. choose (eqb r u) true (of_base false extends (base_of (form t r)))) r

  pub extends_same : r ≡ u → extends_to t u r ≡ true
  extends_same e = extends_eq ∙ choose_yes _ _ _ (eq-eqb r u e)

  module _ (other : r ≡ u → ⊥) {row : Row} {a : ℕ} (this_row : row ≡ row_at t r) (base : a ≡ base_of (form_of row)) where
    base_here : a ≡ base_of (form t r)
    base_here = base ∙ ap base_of (row_form t r this_row)

    extends_on : extends_to t u r ≡ of_base false (below false r (extends_to t u)) a
    extends_on = extends_eq ∙ choose_no _ _ _ (ne_eqb r u other) ∙ ap (λ b. of_base false (below false r (extends_to t u)) b) (sym base_here)

    pub extends_none : a ≡ 0 → extends_to t u r ≡ false
    extends_none e = extends_on ∙ up_none false (extends_to t u) r a e

    pub extends_high : 0 < a → r ≤ a - 1 → extends_to t u r ≡ false
    extends_high h l = extends_on ∙ up_high false (extends_to t u) r a h l

    pub extends_low : 0 < a → a - 1 < r → extends_to t u r ≡ extends_to t u (a - 1)
    extends_low h l = extends_on ∙ up_low false (extends_to t u) r a h l

-- ---- fields

module _ (t f plan : List ℕ) (n r : ℕ) {row : Row} (this_row : row ≡ row_at t r) where
  planned_eq : planned_field t f plan n r ≡ planned_by f plan n (below None r (planned_field t f plan n)) r (form_of row)
  unfolding planned_field
  planned_eq =
      rec_eq None (λ above r. planned_by f plan n above r (form t r)) r
      ∙ ap (λ x. planned_by f plan n (below None r (planned_field t f plan n)) r x) (sym (row_form t r this_row))

  pub planned_other : (row.kind ≡ 4 → ⊥) → planned_field t f plan n r ≡ None
  unfolding planned_by
  planned_other h =
      planned_eq
      ∙ by_form row (λ x. planned_by f plan n (below None r (planned_field t f plan n)) r x ≡ None) (λ k. refl) (λ e m. refl) refl h

  module _ (kind : row.kind ≡ 4) where
    planned_record : planned_field t f plan n r
        ≡ choose (ltb n (get_or plan (INHERITED + r) 0))
        (of_base None (below None r (planned_field t f plan n)) row.a)
        (planned_own f plan row.b row.c (n - get_or plan (INHERITED + r) 0))
    unfolding planned_by
    planned_record = planned_eq ∙ rw (form_record row kind)

    pub planned_own_lem : get_or plan (INHERITED + r) 0 ≤ n
        → planned_field t f plan n r ≡ planned_own f plan row.b row.c (n - get_or plan (INHERITED + r) 0)
    planned_own_lem h = planned_record ∙ choose_no _ _ _ (le-ltb n (get_or plan (INHERITED + r) 0) h)

    module _ (less : n < get_or plan (INHERITED + r) 0) where
      planned_up : planned_field t f plan n r ≡ of_base None (below None r (planned_field t f plan n)) row.a
      planned_up = planned_record ∙ choose_yes _ _ _ (lt-ltb n (get_or plan (INHERITED + r) 0) less)

      pub planned_none : row.a ≡ 0 → planned_field t f plan n r ≡ None
      planned_none e = planned_up ∙ up_none None (planned_field t f plan n) r row.a e

      pub planned_high : 0 < row.a → r ≤ row.a - 1 → planned_field t f plan n r ≡ None
      planned_high h l = planned_up ∙ up_high None (planned_field t f plan n) r row.a h l

      pub planned_low : 0 < row.a → row.a - 1 < r → planned_field t f plan n r ≡ planned_field t f plan n (row.a - 1)
      planned_low h l = planned_up ∙ up_low None (planned_field t f plan n) r row.a h l
