-- Laws of the loop over procedures.
use Rattle.std.specs.Prelude.{Ok, Err}
use mathlib.Core.Path.{◌≡◌, sym, ◌∙◌}
use mathlib.Core.Bool.{Bool, true, false}
use mathlib.Core.List.{List}
use Prim.Native.Nat.{ℕ, zero, suc, ◌+◌, ◌≤◌, ◌<◌}
use native.Mathlib.Omega.{arith}
use borrow.Author.Tests.{eq-eqb, ne_eqb, leb-true}
use lib.Dec.{eqb}
use Rattle.prelude.specs.Choice.{choose}
use Rattle.prelude.proofs.Choice.{also_true, also_yes, also_left, also_right}
use Rattle.image.specs.declared.Row.{Row}
use Rattle.image.specs.Rows.{row_at, rows_of}
use Rattle.image.specs.Faults.{KeptIn}
use Rattle.image.proofs.Faults.{kept_none, kept_next, up_to_bad, up_to_some, up_to_end}
use Rattle.frames.specs.Variables.{is_global, globals_from, globals_of}
use Rattle.frames.specs.Procedures.{claimed_by, first_from, first_variable, body_kept, own_kept}
use Rattle.frames.specs.Procedures.{procedure_kept, question6}

globals_few : (v : List ℕ) (n k : ℕ) → globals_from v k n ≤ k + n
unfolding globals_from choose
globals_few v zero k = omega arith
globals_few v (suc n) k = go (is_global v k) (globals_few v n (k + 1))
  where
    go : (b : Bool) → globals_from v (k + 1) n ≤ k + 1 + n → choose b (globals_from v (k + 1) n) k ≤ k + suc n
    go true h = omega arith
    go false h = omega arith

pub globals_within : (v : List ℕ) → globals_of v ≤ rows_of v
unfolding globals_of
globals_within v = let h = globals_few v (rows_of v) 0 in omega arith

-- the rows below r are passed, and `first` is the next variable
pub record Claimed (v p s : List ℕ) (first r : ℕ) : Type 0 where
  pub within : r ≤ rows_of p
  pub kept : KeptIn (procedure_kept v p s) 0 r
  pub next : first ≡ first_variable v p r
  pub few : first ≤ rows_of v

pub claimed_none : (v p s : List ℕ) (first : ℕ) → first ≡ globals_of v → Claimed v p s first 0
unfolding first_variable first_from
claimed_none v p s first e = record {
  within = omega arith;
  kept = kept_none (procedure_kept v p s) 0;
  next = e;
  few = rw e (globals_within v);
}

own_room : (v : List ℕ) (first : ℕ) (row : Row) → own_kept v first row ≡ true → first + (row.b + row.c) ≤ rows_of v
unfolding own_kept claimed_by
own_room v first row e = leb-true _ _ (also_true _ _ e).0

module _ (v p s : List ℕ) (first r : ℕ) (c : Claimed v p s first r) where
  faulty : r < rows_of p → procedure_kept v p s r ≡ false → Err r ≡ question6 v p s
  unfolding question6
  faulty more bad = up_to_bad (procedure_kept v p s) (rows_of p) _ r c.kept c.within more bad

  module _ (more : r < rows_of p) (row : Row) (this_row : row ≡ row_at p r) where
    pub body_bad : body_kept p (rows_of s) r row ≡ false → Err r ≡ question6 v p s
    unfolding procedure_kept
    body_bad e = faulty more (also_left _ (rw this_row at e))

    own_same : own_kept v first row ≡ own_kept v (first_variable v p r) (row_at p r)
    own_same = rw (this_row, c.next)

    pub own_bad : own_kept v first row ≡ false → Err r ≡ question6 v p s
    unfolding procedure_kept
    own_bad e = faulty more (also_right _ (sym own_same ∙ e))

    pub claimed_next : body_kept p (rows_of s) r row ≡ true → own_kept v first row ≡ true → Claimed v p s (first + (row.b + row.c)) (r + 1)
    unfolding procedure_kept first_variable first_from claimed_by
    claimed_next body own = record {
      within = omega arith;
      kept = kept_next (procedure_kept v p s) 0 r c.kept (also_yes (rw this_row at body) (sym own_same ∙ own));
      next = let one : r + 1 ≡ suc r = omega arith in rw one (rw (c.next, this_row));
      few = own_room v first row own;
    }

  module _ (done : rows_of p ≤ r) where
    all_rows : r ≡ rows_of p
    all_rows = let w = c.within in omega arith

    all_variables : eqb (first_variable v p (rows_of p)) (rows_of v) ≡ eqb first (rows_of v)
    all_variables = rw (c.next, all_rows)

    pub variables_bad : (first ≡ rows_of v → ⊥) → Err r ≡ question6 v p s
    unfolding question6
    variables_bad h =
        up_to_some (procedure_kept v p s) (rows_of p) _ r c.kept c.within done
        (all_variables ∙ ne_eqb first (rows_of v) h)

    pub variables_all : first ≡ rows_of v → Ok tt ≡ question6 v p s
    unfolding question6
    variables_all h =
        up_to_end (procedure_kept v p s) (rows_of p) _ r c.kept c.within done
        (all_variables ∙ eq-eqb first (rows_of v) h)
