-- Laws of the loop that asks question 4, row by row.
use Rattle.std.specs.Prelude.{Ok, Err}
use Rattle.image.specs.Faults.{Verdict, KeptIn}
use mathlib.Core.Path.{◌≡◌, sym, ◌∙◌, ap}
use mathlib.Core.Bool.{true, false}
use mathlib.Core.List.{List}
use Prim.Native.Nat.{ℕ, suc, ◌+◌, ◌≤◌, ◌<◌}
use native.Mathlib.Omega.{arith}
use borrow.Author.Tests.{eq-eqb, ne_eqb, le-leb, lt-leb}
use lib.Dec.{eqb}
use lib.ListN.{length, get_or}
use Rattle.prelude.proofs.Choice.{also_yes, also_left, also_right}
use Rattle.image.specs.declared.Row.{Row}
use Rattle.image.specs.Rows.{row_at, rows_of}
use Rattle.image.proofs.Faults.{kept_none, kept_next, up_to_bad, up_to_some, up_to_end}
use Rattle.shapes.specs.Forms.{form_of, form, count_of}
use Rattle.shapes.specs.Sizes.{size_by, size_of}
use Rattle.shapes.specs.Shapes.{used_below, shape_kept, type_kept}
use Rattle.types.specs.Question.{question4}
use Rattle.types.specs.Plan.{Plan, Rest, passed}
use Rattle.types.specs.Filling.{Ready}
use Rattle.shapes.proofs.Rows.{row_form}
use Rattle.shapes.proofs.Accepted.{Shape, shape_of, size_agree, size_is, used_none, used_next, used_fits}
use Rattle.sizes.specs.Cells.{PLACES}
use Rattle.types.proofs.Planning.{plan_none, rest_none, rest_more}

-- the rows below r are passed
pub record Sofar (version : ℕ) (t f old plan : List ℕ) (r used : ℕ) : Type 0 where
  pub few_rows : rows_of t ≤ 64
  pub few_fields : rows_of f ≤ 256
  pub room : PLACES ≤ length old
  pub within : r ≤ rows_of t
  pub claimed : used ≡ used_below t r
  pub below : KeptIn (type_kept version t f) 0 r
  pub planned : Plan t f r plan
  pub rest : Rest t r old plan

pub sofar_none : {version : ℕ} (t f plan : List ℕ) → rows_of t ≤ 64 → rows_of f ≤ 256 → PLACES ≤ length plan
    → Sofar version t f plan plan 0 0
sofar_none {version} t f plan a b c = record {
  few_rows = a;
  few_fields = b;
  room = c;
  within = omega arith;
  claimed = sym (used_none t);
  below = kept_none (type_kept version t f) 0;
  planned = plan_none t f plan;
  rest = rest_none t plan;
}

-- what the function gives back
abbrev pub Answered : ℕ → List ℕ → List ℕ → List ℕ → List ℕ → Verdict → Type 0
Answered version t f old plan v =
    (v ≡ question4 version t f) × (Plan t f (passed t v) plan × Rest t (passed t v) old plan)

module _ {version : ℕ} (t f old plan : List ℕ) (r used : ℕ) (s : Sofar version t f old plan r used) where
  open s use {few_rows, few_fields, room, within, claimed, below, planned, rest}

  pub used_small : used ≤ 256
  used_small = let fits = used_fits version t f r below in omega arith

  -- a row at fault
  faulty : r < rows_of t → type_kept version t f r ≡ false → Answered version t f old plan (Err r)
  unfolding question4 passed
  faulty more bad = (up_to_bad (type_kept version t f) (rows_of t) _ r below within more bad, (planned, rest))

  module _ (more : r < rows_of t) (row : Row) (this_row : row ≡ row_at t r) where
    shape_same : shape_kept version t f used r row ≡ shape_kept version t f (used_below t r) r (row_at t r)
    shape_same = rw (this_row, claimed)

    pub shape_bad : shape_kept version t f used r row ≡ false → Answered version t f old plan (Err r)
    unfolding type_kept
    shape_bad e = faulty more (also_left _ (sym shape_same ∙ e))

    module _ (shape : shape_kept version t f used r row ≡ true) (size : ℕ)
        (adds : size ≡ size_by f (λ b. get_or plan b 0) (form_of row)) where
      here_shape : Shape t f used r (form t r)
      here_shape = rw (row_form t r this_row) at (shape_of version t f used r row shape)

      sized : size ≡ size_of t f r
      sized =
          adds
          ∙ ap (λ x. size_by f (λ b. get_or plan b 0) x) (row_form t r this_row)
          ∙ size_agree (λ b. get_or plan b 0) (size_of t f) here_shape (λ b low. planned.size b low)
          ∙ sym (size_is t f r here_shape)

      pub size_bad : 4096 < size → Answered version t f old plan (Err r)
      unfolding type_kept
      size_bad h = faulty more (also_right _ (lt-leb (size_of t f r) 4096 (let e = sized in omega arith)))

      module _ (small : size ≤ 4096) where
        kept_here : type_kept version t f r ≡ true
        unfolding type_kept
        kept_here = also_yes (sym shape_same ∙ shape) (le-leb (size_of t f r) 4096 (let e = sized in omega arith))

        pub ready : Ready t f plan used r row size
        ready = record {
          version = version;
          few_rows = omega arith;
          few_fields = few_fields;
          cells = let same = rest.cells in omega arith;
          this_row = this_row;
          claimed = claimed;
          sized = sized;
          below = below;
          here = kept_here;
          planned = planned;
        }

        pub sofar_next : (next : List ℕ) (own : ℕ) → own ≡ count_of (form_of row) → Plan t f (r + 1) next → Rest t (r + 1) plan next
            → Sofar version t f old next (r + 1) (used + own)
        sofar_next next own counted p q = record {
          few_rows = few_rows;
          few_fields = few_fields;
          room = room;
          within = omega arith;
          claimed =
              let one : r + 1 ≡ suc r = omega arith in
              rw one (rw (claimed, counted, row_form t r this_row) (sym (used_next t r)));
          below = kept_next (type_kept version t f) 0 r below kept_here;
          planned = p;
          rest = rest_more t r old plan next rest q;
        }

  -- the rows are used up
  module _ (done : rows_of t ≤ r) where
    all_rows : r ≡ rows_of t
    all_rows = omega arith

    all_fields : eqb (used_below t (rows_of t)) (rows_of f) ≡ eqb used (rows_of f)
    all_fields = rw (claimed, all_rows)

    pub fields_bad : (used ≡ rows_of f → ⊥) → Answered version t f old plan (Err r)
    unfolding question4 passed
    fields_bad h =
        let bad = all_fields ∙ ne_eqb used (rows_of f) h in
        (up_to_some (type_kept version t f) (rows_of t) _ r below within done bad, (planned, rest))

    pub fields_good : used ≡ rows_of f → Answered version t f old plan (Ok tt)
    unfolding question4 passed
    fields_good h = (
      up_to_end (type_kept version t f) (rows_of t) _ r below within done (all_fields ∙ eq-eqb used (rows_of f) h),
      (rw all_rows at planned, rw all_rows at rest),
    )
