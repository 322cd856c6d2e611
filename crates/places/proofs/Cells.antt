-- Laws of cells of which a part is lent.
use mathlib.Core.Path.{◌≡◌, ◌∙◌}
use mathlib.Core.List.{List, ◌++◌, append-nil}
use Prim.Native.Nat.{ℕ, ◌+◌, ◌-◌, ◌≤◌, ◌<◌}
use native.Mathlib.Omega.{arith}
use native.Mathlib.Nat.{le_of_eq}
use lib.ListN.{length, get_or, take, drop, length-append, length-drop}
use lib.ListN.{drop_of_length-le, get_or-append}
use lib.Seq.{get_or-take, get_or-drop, get_or-append-add, take_all, length-take-le}

-- the part `&mut s[a..]`: what is lent, and the whole once r has come back

module _ (a : ℕ) (s r : List ℕ) (within : a ≤ length s) where
  pub lent_cell : (i : ℕ) → get_or (take (length s - a) (drop a s)) i 0 ≡ get_or s (a + i) 0
  lent_cell i =
      rw (take_all (length s - a) (drop a s) (le_of_eq (length-drop a s))) (get_or-drop a s i 0)

  lent_length : length (take (length s - a) (drop a s)) ≡ length s - a
  lent_length = rw (take_all (length s - a) (drop a s) (le_of_eq (length-drop a s))) (length-drop a s)

  put_is : take a s ++ (r ++ drop (length s - a) (drop a s)) ≡ take a s ++ r
  put_is = rw (drop_of_length-le (drop a s) {i = length s - a} (le_of_eq (length-drop a s)), append-nil)

  front : length (take a s) ≡ a
  front = length-take-le a s within

  pub put_length : length r ≡ length (take (length s - a) (drop a s))
      → length (take a s ++ (r ++ drop (length s - a) (drop a s))) ≡ length s
  put_length e = rw put_is (omega (arith, length-append (take a s) r, front, e, lent_length))

  pub put_below : (i : ℕ) → i < a → get_or (take a s ++ (r ++ drop (length s - a) (drop a s))) i 0 ≡ get_or s i 0
  put_below i h =
      get_or-append (take a s) (r ++ drop (length s - a) (drop a s)) 0 i (rw front h) ∙ get_or-take a s i 0 h

  pub put_cell : (i : ℕ) → get_or (take a s ++ (r ++ drop (length s - a) (drop a s))) (a + i) 0 ≡ get_or r i 0
  put_cell i = rw put_is (rw front at (get_or-append-add (take a s) r i 0))
