-- Laws of the cells that hold where the tables stand.
use mathlib.Core.Path.{◌≡◌, refl}
use mathlib.Core.Bool.{Bool, true, false}
use mathlib.Core.List.{List, [], ◌∷◌}
use Prim.Native.Nat.{ℕ, zero, suc, ◌+◌, ◌*◌, ◌≤◌, ◌<◌}
use native.Mathlib.Omega.{arith}
use lib.Dec.{eqb}
use lib.ListN.{length, get_or, set, length-set}
use Rattle.prelude.specs.Choice.{choose}
use Rattle.prelude.specs.Cells.{Filled}
use Rattle.prelude.proofs.Cells.{filled_next}
use Rattle.std.proofs.Math.Numerals.{add-one}
use Rattle.header.specs.declared.Table.{Table}
use Rattle.header.specs.declared.Tables.{Tables}
use Rattle.header.proofs.Fitting.{Fits}
use Rattle.sizes.specs.Cells.{BOUNDS, CHECK_PLAN}
use Rattle.checker.specs.Prepared.{bound_of, BoundsFit}

small : (b : Bool) {x y : ℕ} → x ≤ 65536 → y ≤ 65536 → choose b x y ≤ 65536
unfolding choose
small true h k = h
small false h k = k

-- the tables of a header that says yes end early
pub bounds_fit : (image : List ℕ) (ts : Tables) → Fits image ts → BoundsFit ts
unfolding bound_of
bounds_fit image ts fits =
    let t = fits.types in
    let f = fits.fields in
    let v = fits.variables in
    let p = fits.procedures in
    let n = fits.nodes in
    let s = fits.statements in
    let t₁ : ts.types.end ≤ 600 = omega (arith, t.start, t.end, t.most) in
    let f₁ : ts.fields.end ≤ 3000 = omega (arith, f.start, f.end, f.most) in
    let v₁ : ts.variables.end ≤ 6000 = omega (arith, v.start, v.end, v.most) in
    let p₁ : ts.procedures.end ≤ 7000 = omega (arith, p.start, p.end, p.most) in
    let n₁ : ts.nodes.end ≤ 24000 = omega (arith, n.start, n.end, n.most) in
    let s₁ : ts.statements.end ≤ 33000 = omega (arith, s.start, s.end, s.most) in
    record {
      each = λ j. small (eqb j 0) (omega (arith, t.start)) (small (eqb j 1) (omega arith)
          (small (eqb j 2) (omega (arith, f.start)) (small (eqb j 3) (omega arith)
          (small (eqb j 4) (omega (arith, v.start)) (small (eqb j 5) (omega arith)
          (small (eqb j 6) (omega (arith, p.start)) (small (eqb j 7) (omega arith)
          (small (eqb j 8) (omega (arith, n.start)) (small (eqb j 9) (omega arith)
          (small (eqb j 10) (omega (arith, s.start)) (omega arith)))))))))));
    }

-- ---- they are written one after the other

-- table k of the six
abbrev pub table_at : Tables → ℕ → Table
table_at ts k =
    get_or (ts.types ∷ (ts.fields ∷ (ts.variables ∷ (ts.procedures ∷ (ts.nodes ∷ (ts.statements ∷ [])))))) k
    (record { start = 0; end = 0 })

-- it has the numbers 2k and 2k + 1
stands : (ts : Tables) (k : ℕ) → k < 6
    → ((table_at ts k).start ≡ bound_of ts (2 * k)) × ((table_at ts k).end ≡ bound_of ts (2 * k + 1))
unfolding bound_of choose
stands ts zero h = (refl, refl)
stands ts (suc zero) h = (refl, refl)
stands ts (suc (suc zero)) h = (refl, refl)
stands ts (suc (suc (suc zero))) h = (refl, refl)
stands ts (suc (suc (suc (suc zero)))) h = (refl, refl)
stands ts (suc (suc (suc (suc (suc zero))))) h = (refl, refl)
stands ts (suc (suc (suc (suc (suc (suc k)))))) h = absurd (omega arith)

module _ (ts : Tables) (fit : BoundsFit ts) (k : ℕ) (more : k < 6) where
  pub start_fits : (table_at ts k).start ≤ 65536
  start_fits = rw (stands ts k more).0 (fit.each (2 * k))

  pub end_fits : (table_at ts k).end ≤ 65536
  end_fits = rw (stands ts k more).1 (fit.each (2 * k + 1))

  pub bounds_next : (old plan : List ℕ) → CHECK_PLAN ≤ length plan → Filled BOUNDS (2 * k) (bound_of ts) old plan
      → Filled BOUNDS (2 * (k + 1)) (bound_of ts) old
      (set (set plan (BOUNDS + 2 * k) (table_at ts k).start) (BOUNDS + 2 * k + 1) (table_at ts k).end)
  bounds_next old plan room filled =
      let (start, end) = stands ts k more in
      let cells = length-set plan (BOUNDS + 2 * k) (table_at ts k).start in
      let one = filled_next BOUNDS (2 * k) (bound_of ts) old plan (BOUNDS + 2 * k) _ filled refl (omega arith) start in
      let last = rw add-one at end in
      let two = filled_next BOUNDS (suc (2 * k)) (bound_of ts) old _ (BOUNDS + 2 * k + 1) _ one (omega arith)
      (omega arith) last in
      let twice : suc (suc (2 * k)) ≡ 2 * (k + 1) = omega arith in
      rw twice at two
