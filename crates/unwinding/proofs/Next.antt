-- Laws of the table of variables with cells.
use mathlib.Core.Path.{◌≡◌, refl, sym, ◌∙◌, ap}
use mathlib.Core.Bool.{Bool}
use mathlib.Core.List.{List}
use Prim.Native.Nat.{ℕ, zero, suc, ◌+◌, ◌-◌, ◌≤◌, ◌<◌}
use native.Mathlib.Omega.{arith}
use native.Mathlib.Decide.{dec_lt}
use borrow.Author.Tests.{eq-eqb, ne_eqb}
use lib.IntN.{ℤ}
use lib.ListN.{length, get_or, set, length-set}
use lib.Seq.{get_or-set_same, get_or-set_other}
use Rattle.prelude.specs.Choice.{choose}
use Rattle.prelude.specs.Cells.{Filled}
use Rattle.prelude.proofs.Cells.{filled_none, filled_at}
use Rattle.prelude.proofs.Choice.{choose_yes, choose_no}
use Rattle.image.specs.Rows.{row_at, rows_of}
use Rattle.places.specs.Places.{width_of}
use Rattle.places.proofs.Rooms.{width_var}
use Rattle.semantics.specs.Layout.{Program}
use Rattle.asking.proofs.Variables.{Along, Ahead}
use Rattle.access.specs.Ready.{table_of}
use Rattle.unwinding.specs.Next.{first_or, first_of, next_of, Skips}

module _ (g : Program) where
  abbrev width : ℕ → ℕ
  width = width_of g.types g.fields g.variables

  abbrev rows : ℕ
  rows = rows_of g.variables

  -- the rows of the third table
  pub rows_are : {t : List ℕ} {n : ℕ} → t ≡ table_of g 2 → n ≡ rows_of t → n ≡ rows_of g.variables
  unfolding table_of choose
  rows_are is count = rw is at count

  -- ---- one row

  pub or_behind : (k behind : ℕ) → width_of g.types g.fields g.variables k ≡ 0 → first_or g k behind ≡ behind
  unfolding first_or
  or_behind k behind none = choose_yes _ _ _ (eq-eqb (width k) 0 none)

  pub or_here : (k behind : ℕ) → (width_of g.types g.fields g.variables k ≡ 0 → ⊥) → first_or g k behind ≡ k
  unfolding first_or
  or_here k behind some = choose_no _ _ _ (ne_eqb (width k) 0 some)

  -- a row without cells is no VAR parameter, which has two
  pub bare_other : (k : ℕ) → width_of g.types g.fields g.variables k ≡ 0
      → (row_at g.variables k).kind ≡ 3 → ⊥
  bare_other k none var =
      let two : width k ≡ 2 = width_var _ g.variables k var in
      absurd (omega arith)

  -- ---- several

  -- what a row found among n from row k on is
  record First (n k x : ℕ) : Type 0 where
    least : k ≤ x
    most : x ≤ k + n
    bare : (r : ℕ) → k ≤ r → r < x → width r ≡ 0

  first_of_lem : (n k : ℕ) → First n k (first_of g n k)
  unfolding first_of
  first_of_lem zero k = record { least = omega arith; most = omega arith; bare = λ r low high. absurd (omega arith) }
  first_of_lem (suc n) k = go (first_of_lem n (k + 1)) (dec_lt 0 (width k))
    where
      go : First n (k + 1) (first_of g n (k + 1)) → Dec (0 < width k)
          → First (suc n) k (first_or g k (first_of g n (k + 1)))
      go behind (yes some) = rw (or_here k (first_of g n (k + 1)) (λ e. absurd (omega arith))) (record {
        least = omega arith;
        most = omega arith;
        bare = λ r low high. absurd (omega arith);
      })
      go behind (no none) = rw (or_behind k (first_of g n (k + 1)) (omega arith)) (record {
        least = omega (arith, behind.least);
        most = omega (arith, behind.most);
        bare = λ r low high. each r low high (dec_lt k r);
      })
        where
          each : (r : ℕ) → k ≤ r → r < first_of g n (k + 1) → Dec (k < r) → width r ≡ 0
          each r low high (yes past) = behind.bare r (omega arith) high
          each r low high (no here) = let same : r ≡ k = omega arith in rw same (omega arith)

  -- ---- all from a row on

  pub next_least : (k : ℕ) → k ≤ next_of g k
  unfolding next_of
  next_least k = (first_of_lem (rows - k) k).least

  pub next_most : (k : ℕ) → k ≤ rows_of g.variables → next_of g k ≤ rows_of g.variables
  unfolding next_of
  next_most k low = omega (arith, (first_of_lem (rows - k) k).most)

  -- rows before it have no cells
  pub next_bare : (k r : ℕ) → k ≤ r → r < next_of g k → width_of g.types g.fields g.variables r ≡ 0
  unfolding next_of
  next_bare k r low high = (first_of_lem (rows - k) k).bare r low high

  -- ---- the table from its last place down

  pub next_last : next_of g (rows_of g.variables) ≡ rows_of g.variables
  unfolding next_of first_of
  next_last = let none : rows - rows ≡ 0 = omega arith in rw none refl

  pub next_before : (k : ℕ) → k < rows_of g.variables → next_of g k ≡ first_or g k (next_of g (k + 1))
  unfolding next_of first_of
  next_before k low = let more : rows - k ≡ suc (rows - (k + 1)) = omega arith in rw more refl

  -- one place more before those that are filled
  filled_before : {old table : List ℕ} {n i x : ℕ} → Filled (i + 1) n (λ j. next_of g (i + 1 + j)) old table
      → i < length old → x ≡ next_of g i → Filled i (n + 1) (λ j. next_of g (i + j)) old (set table i x)
  filled_before {old} {table} {n} {i} {x} h room is = record {
    cells = length-set table i x ∙ h.cells;
    cell = λ j l. cell j l (dec_lt 0 j);
    below = λ r l. get_or-set_other table i r x 0 (omega arith) ∙ h.below r (omega arith);
    above = λ r l. get_or-set_other table i r x 0 (omega arith) ∙ h.above r (omega arith);
  }
    where
      cell : (j : ℕ) → j < n + 1 → Dec (0 < j) → get_or (set table i x) (i + j) 0 ≡ next_of g (i + j)
      cell j l (yes past) =
          let same : i + 1 + (j - 1) ≡ i + j = omega arith in
          get_or-set_other table i (i + j) x 0 (omega arith) ∙ rw same at (h.cell (j - 1) (omega arith))
      cell j l (no first) =
          let same : i + j ≡ i = omega arith in
          rw same (get_or-set_same table i x 0 (omega (arith, h.cells)) ∙ is)

  -- the places from place i on are filled, and `first` is there
  pub record Down (old table : List ℕ) (first i : ℕ) : Type 0 where
    pub low : i ≤ rows_of g.variables
    pub here : first ≡ next_of g i
    pub filled : Filled i (rows_of g.variables - i + 1) (λ j. next_of g (i + j)) old table

  pub down_start : (old : List ℕ) {i : ℕ} → i ≡ rows_of g.variables → rows_of g.variables < length old
      → Down old (set old i i) i i
  down_start old {i} is room =
      let none : 0 + 1 ≡ rows - i + 1 = omega (arith, is) in
      let here : i ≡ next_of g i = rw is (sym next_last) in
      let filled = filled_before (filled_none (i + 1) _ old) (omega (arith, is)) here in
      record { low = omega (arith, is); here = here; filled = rw none at filled }

  module _ {old table : List ℕ} {first i : ℕ} (h : Down old table first i)
      (room : rows_of g.variables < length old) where
    pub down_next : {k x : ℕ} → i ≡ k + 1 → x ≡ first_or g k first → Down old (set table k x) x k
    down_next {k} {x} row is =
        let more : rows - (k + 1) + 1 + 1 ≡ rows - k + 1 = omega (arith, row, h.low) in
        let low : k < rows = omega (arith, row, h.low) in
        let here = is ∙ ap (λ y. first_or g k y) (rw row at h.here) ∙ sym (next_before k low) in
        let behind = rw row at h.filled in
        record { low = omega arith; here = here; filled = rw more at (filled_before behind (omega arith) here) }

    pub down_end : i ≡ 0 → Filled 0 (rows_of g.variables + 1) (next_of g) old table
    down_end none =
        let all : rows - 0 ≡ rows = omega arith in
        let filled = rw (none, all) at h.filled in
        record {
          cells = filled.cells;
          cell = λ j l. let same : 0 + j ≡ j = omega arith in filled.cell j l ∙ ap (λ r. next_of g r) same;
          below = filled.below;
          above = filled.above;
        }

  pub skips_by : {old table : List ℕ} → rows_of g.variables < length old
      → Filled 0 (rows_of g.variables + 1) (next_of g) old table → Skips g table
  skips_by room filled =
      record { room = omega (arith, filled.cells); each = λ k low. filled_at filled k (omega arith) }

  -- ---- loops

  -- a place has a row from its own on, or how many rows there are
  pub skips_within : {next : List ℕ} → Skips g next → (k : ℕ) → k ≤ rows_of g.variables
      → (k ≤ get_or next k 0) × (get_or next k 0 ≤ rows_of g.variables)
  skips_within skips k low =
      let is = skips.each k low in
      (omega (arith, is, next_least k), omega (arith, is, next_most k low))

  -- from a row on to the next that has cells
  pub ahead_next : {test : ℕ → List ℤ → Bool} {store : List ℤ} {k n from j at x : ℕ}
      → Along g test store k n from j at → x ≡ next_of g j → Ahead g test store k n from x at
  ahead_next {test} {store} {k} {n} {from} {j} {at} {x} along is = record {
    reached = j;
    along = along;
    less = omega (arith, is, next_least j);
    bare = λ r low high. next_bare j r low (omega (arith, is));
  }
