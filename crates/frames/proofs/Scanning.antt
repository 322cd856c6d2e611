-- Laws of the loops over variables.
use Rattle.std.specs.Prelude.{Ok, Err}
use mathlib.Core.Path.{◌≡◌, refl, sym, ◌∙◌}
use mathlib.Core.Bool.{Bool, true, false}
use mathlib.Core.List.{List}
use Prim.Native.Nat.{ℕ, suc, ◌+◌, ◌-◌, ◌≤◌, ◌<◌}
use native.Mathlib.Omega.{arith}
use borrow.Author.Tests.{eq-eqb, ne_eqb, eqb-true}
use lib.Dec.{eqb}
use Rattle.prelude.proofs.Choice.{choose_yes, choose_no, also_true}
use Rattle.image.specs.declared.Row.{Row}
use Rattle.image.specs.Rows.{row_at, rows_of}
use Rattle.image.specs.Faults.{all_from, KeptIn}
use Rattle.image.proofs.Faults.{kept_none, kept_next, scan_bad, scan_end, all_each, each_all, not_all}
use Rattle.frames.specs.Variables.{is_global, globals_from, form_kept, variable_kept, question5}

-- ---- question 5

-- the rows below r are passed
pub record Passed (t v : List ℕ) (r : ℕ) (lower : Bool) : Type 0 where
  pub within : r ≤ rows_of v
  pub kept : KeptIn (variable_kept t v) 0 r
  pub globals : lower ≡ all_from (is_global v) 0 r

pub passed_none : (t v : List ℕ) → Passed t v 0 true
unfolding all_from
passed_none t v = record { within = omega arith; kept = kept_none (variable_kept t v) 0; globals = refl }

-- a global that keeps its form has globals alone below
form_global : (row : Row) (types : ℕ) (lower : Bool) → form_kept row types lower ≡ true → row.kind ≡ 0 → lower ≡ true
unfolding form_kept
form_global row types lower e kind =
    let (a, e₁) = also_true _ _ e in
    let (b, e₂) = also_true _ _ e₁ in
    let (c, e₃) = also_true _ _ e₂ in
    let (d, e₄) = also_true _ _ e₃ in
    let (g, e₅) = also_true _ _ e₄ in
    sym (choose_yes _ _ _ (eq-eqb row.kind 0 kind)) ∙ e₅

is_global_lem : (v : List ℕ) (r : ℕ) (row : Row) → row ≡ row_at v r → is_global v r ≡ eqb row.kind 0
unfolding is_global
is_global_lem v r row e = rw e

module _ (t v : List ℕ) (r : ℕ) (lower : Bool) (p : Passed t v r lower) (more : r < rows_of v) (row : Row) (this_row : row ≡ row_at v r)
    (x : Bool) (form : x ≡ form_kept row (rows_of t) lower) where
  variable_is : variable_kept t v r ≡ x
  unfolding variable_kept
  variable_is = rw (← p.globals, ← this_row) (sym form)

  pub variable_bad : x ≡ false → Err r ≡ question5 t v
  unfolding question5
  variable_bad bad = scan_bad (variable_kept t v) (rows_of v) r p.kept more (variable_is ∙ bad)

  module _ (good : x ≡ true) where
    lower_next : eqb row.kind 0 ≡ all_from (is_global v) 0 (r + 1)
    lower_next = go (eqb row.kind 0) refl
      where
        at : is_global v r ≡ eqb row.kind 0
        at = is_global_lem v r row this_row

        whole : KeptIn (is_global v) 0 r → is_global v r ≡ true → KeptIn (is_global v) 0 (0 + (r + 1))
        whole below here = let q : r + 1 ≡ 0 + (r + 1) = omega arith in rw q at (kept_next (is_global v) 0 r below here)

        go : (b : Bool) → eqb row.kind 0 ≡ b → b ≡ all_from (is_global v) 0 (r + 1)
        go true e =
            let all = form_global row (rows_of t) lower (sym form ∙ good) (eqb-true row.kind 0 e) in
            let below = all_each (is_global v) r 0 (sym p.globals ∙ all) in
            let zero_add : 0 + r ≡ r = omega arith in
            sym (each_all (is_global v) (r + 1) 0 (whole (rw zero_add at below) (at ∙ e)))
        go false e = sym (not_all (is_global v) (r + 1) 0 r (omega arith) (omega arith) (at ∙ e))

    pub passed_next : Passed t v (r + 1) (eqb row.kind 0)
    passed_next = record {
      within = omega arith;
      kept = kept_next (variable_kept t v) 0 r p.kept (variable_is ∙ good);
      globals = lower_next;
    }

pub variables_good : (t v : List ℕ) (r : ℕ) (lower : Bool) → Passed t v r lower → rows_of v ≤ r → Ok tt ≡ question5 t v
unfolding question5
variables_good t v r lower p done = scan_end (variable_kept t v) (rows_of v) r p.kept done

-- ---- how many globals

module _ (v : List ℕ) (k e : ℕ) where
  pub globals_more : k < e → {row : Row} → row ≡ row_at v k → row.kind ≡ 0 → globals_from v k (e - k) ≡ globals_from v (k + 1) (e - (k + 1))
  unfolding globals_from
  globals_more h {row} r kind =
      let one : e - k ≡ suc (e - (k + 1)) = omega arith in
      rw one (choose_yes _ _ _ (is_global_lem v k row r ∙ eq-eqb row.kind 0 kind))

  pub globals_stop : k < e → {row : Row} → row ≡ row_at v k → (row.kind ≡ 0 → ⊥) → globals_from v k (e - k) ≡ k
  unfolding globals_from
  globals_stop h {row} r kind =
      let one : e - k ≡ suc (e - (k + 1)) = omega arith in
      rw one (choose_no _ _ _ (is_global_lem v k row r ∙ ne_eqb row.kind 0 kind))

  pub globals_end : e ≤ k → globals_from v k (e - k) ≡ k
  unfolding globals_from
  globals_end h = let none : e - k ≡ 0 = omega arith in rw none
