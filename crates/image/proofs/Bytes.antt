-- What rows of bytes can hold, and that rows past the end are none.
use mathlib.Core.Path.{◌≡◌, ap}
use mathlib.Core.List.{List}
use mathlib.Core.Bool.{Bool, true, false}
use Prim.Native.Nat.{ℕ, ◌+◌, ◌*◌, ◌≤◌, ◌<◌}
use native.Mathlib.Omega.{arith}
use native.Mathlib.Decide.{dec_lt}
use borrow.Author.Tests.{le-ltb}
use lib.Dec.{ltb}
use lib.ListN.{get_or, take, drop, length-take, get_or-eq_default}
use lib.Seq.{get_or-take, get_or-drop}
use Rattle.prelude.specs.Choice.{choose}
use Rattle.prelude.proofs.Choice.{choose_no}
use Rattle.image.specs.Rows.{Bytes, number_at, rows_of, no_row, row_at}
use Rattle.image.specs.declared.Row.{Row}

-- a row's numbers are 16 bits wide
pub record Small (r : Row) : Type 0 where
  pub a : r.a < 65536
  pub b : r.b < 65536
  pub c : r.c < 65536

number_small : (s : List ℕ) → Bytes s → (j : ℕ) → number_at s j < 65536
unfolding number_at
number_small s h j = omega (arith, h.each j, h.each (j + 1))

-- a row past the end is no row
pub row_missing : (t : List ℕ) (i : ℕ) → rows_of t ≤ i → row_at t i ≡ no_row
unfolding row_at
row_missing t i h = choose_no _ _ _ (le-ltb i (rows_of t) h)

-- a row of a kind that there is stands in its table
pub row_there : (t : List ℕ) (i : ℕ) → (row_at t i).kind < 255 → i < rows_of t
row_there t i h = go (dec_lt i (rows_of t))
  where
    go : Dec (i < rows_of t) → i < rows_of t
    go (yes l) = l
    go (no l) = absurd (omega (arith, ap (λ (r : Row). r.kind) (row_missing t i (omega arith))))

pub row_small : (t : List ℕ) → Bytes t → (i : ℕ) → Small (row_at t i)
unfolding row_at choose
row_small t h i = go (ltb i (rows_of t))
  where
    go : (b : Bool) → Small (choose b (record {
      kind = get_or t (i * 8) 0;
      zero = get_or t (i * 8 + 1) 0;
      a = number_at t (i * 8 + 2);
      b = number_at t (i * 8 + 4);
      c = number_at t (i * 8 + 6);
    }) no_row)
    go true = record {
      a = number_small t h (i * 8 + 2);
      b = number_small t h (i * 8 + 4);
      c = number_small t h (i * 8 + 6);
    }
    go false = record { a = omega arith; b = omega arith; c = omega arith }

-- a part of a list of bytes
pub slice_bytes : (s : List ℕ) → Bytes s → (n k : ℕ) → Bytes (take n (drop k s))
slice_bytes s h n k = record { each = λ i. go i (dec_lt i n) }
  where
    go : (i : ℕ) → Dec (i < n) → get_or (take n (drop k s)) i 0 < 256
    go i (yes l) = rw (get_or-take n (drop k s) i 0 l, get_or-drop k s i 0) (h.each (k + i))
    go i (no l) =
        rw (get_or-eq_default (take n (drop k s)) 0 {n = i} (simp length-take (omega arith))) (omega arith)
