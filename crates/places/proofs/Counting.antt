-- Laws of the loop that writes the first variable of each procedure.
use mathlib.Core.Path.{◌≡◌, refl, sym, ◌∙◌}
use mathlib.Core.List.{List}
use Prim.Native.Nat.{ℕ, zero, suc, ◌+◌, ◌*◌, ◌≤◌, ◌<◌}
use native.Mathlib.Omega.{arith}
use native.Mathlib.Decide.{dec_le}
use lib.ListN.{length, set}
use Rattle.image.specs.declared.Row.{Row}
use Rattle.image.specs.Rows.{row_at, rows_of}
use Rattle.frames.specs.Variables.{globals_of}
use Rattle.frames.specs.Procedures.{claimed_by, first_from, first_variable}
use Rattle.frames.proofs.Claiming.{globals_within}
use Rattle.prelude.specs.Cells.{Filled}
use Rattle.prelude.proofs.Cells.{filled_none, filled_next}

-- ---- first variables

module _ (v p : List ℕ) where
  pub first_none : first_variable v p 0 ≡ globals_of v
  unfolding first_variable first_from
  first_none = refl

  pub first_next : (q : ℕ) → first_variable v p (suc q) ≡ first_variable v p q + claimed_by (row_at p q)
  unfolding first_variable first_from
  first_next q = refl

  pub first_grows : (q r : ℕ) → q ≤ r → first_variable v p q ≤ first_variable v p r
  first_grows q zero h = let z : q ≡ 0 = omega arith in rw z (omega arith)
  first_grows q (suc r) h = go (dec_le q r) (first_grows q r)
    where
      go : Dec (q ≤ r) → (q ≤ r → first_variable v p q ≤ first_variable v p r)
          → first_variable v p q ≤ first_variable v p (suc r)
      go (yes l) rest = omega (arith, rest l, first_next r)
      go (no l) rest = let e : q ≡ suc r = omega arith in rw e (omega arith)

  -- a procedure's variables end before those of a later one
  pub first_up : (q r : ℕ) → q < r → first_variable v p q + claimed_by (row_at p q) ≤ first_variable v p r
  first_up q r h = omega (arith, first_next q, first_grows (suc q) r h)

-- ---- the loop

-- the procedures below q are counted
pub record Counted (v p old firsts : List ℕ) (first q : ℕ) : Type 0 where
  pub within : q ≤ rows_of p
  pub next : first ≡ first_variable v p q
  pub small : first ≤ 256 + q * 131070
  pub filled : Filled 0 q (first_variable v p) old firsts

pub counted_none : (v p old : List ℕ) (first : ℕ) → first ≡ globals_of v → rows_of v ≤ 256 → Counted v p old old first 0
counted_none v p old first e few = record {
  within = omega arith;
  next = e ∙ sym (first_none v p);
  small = omega (arith, e, globals_within v);
  filled = filled_none 0 (first_variable v p) old;
}

module _ (v p old firsts : List ℕ) (first q : ℕ) (c : Counted v p old firsts first q) (room : q < length firsts) where
  filled_more : Filled 0 (suc q) (first_variable v p) old (set firsts q first)
  filled_more = filled_next 0 q (first_variable v p) old firsts q first c.filled (omega arith) room c.next

  pub counted_next : q < rows_of p → (row : Row) → row ≡ row_at p q → row.b + row.c ≤ 131070
      → Counted v p old (set firsts q first) (first + (row.b + row.c)) (q + 1)
  unfolding claimed_by
  counted_next more row this_row few =
      let one : q + 1 ≡ suc q = omega arith in
      record {
        within = omega arith;
        next = rw one (rw (c.next, this_row) (sym (first_next v p q)));
        small = omega (arith, c.small, few);
        filled = rw one filled_more;
      }
