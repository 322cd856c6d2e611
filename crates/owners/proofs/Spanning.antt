-- Laws of the loop that fills the table of spans.
use mathlib.Core.Path.{◌≡◌, refl, sym, ◌∙◌, ap, fun_ext}
use mathlib.Core.List.{List}
use Prim.Native.Nat.{ℕ, ◌+◌, ◌≤◌, ◌<◌, min, max}
use native.Mathlib.Omega.{arith}
use native.Mathlib.Decide.{dec_lt, dec_le}
use borrow.Author.Tests.{lt-leb, le-leb}
use lib.Dec.{leb}
use lib.ListN.{length, get_or, take, set, length-set, get_or-eq_default}
use lib.Seq.{length-take-le, get_or-take, get_or-set_same, get_or-set_other}
use Rattle.prelude.specs.Choice.{choose}
use Rattle.prelude.proofs.Choice.{choose_yes, choose_no}
use Rattle.prelude.specs.Rec.{below}
use Rattle.prelude.proofs.Rec.{below_low, below_high, rec_eq}
use Rattle.image.specs.declared.Row.{Row}
use Rattle.image.specs.Rows.{row_at, rows_of}
use Rattle.image.proofs.Bytes.{row_missing}
use Rattle.owners.specs.declared.Span.{Span}
use Rattle.owners.specs.Owners.{gather, gathered, no_span, variable_span, join_span, span_of, span_in, Spans}

-- ---- two spans together

least_min : (x y : ℕ) → min x y ≡ choose (leb x y) x y
least_min x y = go (dec_le x y)
  where
    go : Dec (x ≤ y) → min x y ≡ choose (leb x y) x y
    go (yes h) = rw (choose_yes _ x y (le-leb x y h)) (omega arith)
    go (no h) = rw (choose_no _ x y (lt-leb x y (omega arith))) (omega arith)

past_max : (x y : ℕ) → max x y ≡ choose (leb x y) y x
past_max x y = go (dec_le x y)
  where
    go : Dec (x ≤ y) → max x y ≡ choose (leb x y) y x
    go (yes h) = rw (choose_yes _ y x (le-leb x y h)) (omega arith)
    go (no h) = rw (choose_no _ y x (lt-leb x y (omega arith))) (omega arith)

pub join_is : (x y : Span) (least past : ℕ) → least ≡ min x.least y.least → past ≡ max x.past y.past
    → (record { least = least; past = past }) ≡ join_span x y
unfolding join_span
join_is x y least past low high = rw (low ∙ least_min x.least y.least, high ∙ past_max x.past y.past)

-- ---- the table

module _ (span : ℕ → Span) (m : ℕ) (old spans : List Span) (table : Spans span m old spans)
    (room : m ≤ length spans) where
  span_low : (k : ℕ) → k < m → span_in (take m spans) k ≡ span k
  unfolding span_in
  span_low k h = get_or-take m spans k no_span h ∙ table.holds k h

  span_high : (k : ℕ) → m ≤ k → span_in (take m spans) k ≡ no_span
  unfolding span_in
  span_high k h = get_or-eq_default (take m spans) no_span (rw (length-take-le m spans room) h)

  table_below : span_in (take m spans) ≡ below no_span m span
  table_below = fun_ext (λ k. go k (dec_lt k m))
    where
      go : (k : ℕ) → Dec (k < m) → span_in (take m spans) k ≡ below no_span m span k
      go k (yes h) = span_low k h ∙ sym (below_low no_span m span k h)
      go k (no h) =
          let past_all : m ≤ k = omega arith in
          span_high k past_all ∙ sym (below_high no_span m span k past_all)

pub spans_none : (span : ℕ → Span) (old : List Span) → Spans span 0 old old
spans_none span old = record { cells = refl; holds = λ k h. absurd (omega arith); rest = λ k h. refl }

module _ (v n : List ℕ) (old spans : List Span) (r : ℕ) (table : Spans (span_of v n) r old spans)
    (inside : r < length spans) (row : Row) (this_row : row ≡ row_at n r) (x : Span)
    (given : x ≡ gather no_span (variable_span v) join_span (span_in (take r spans)) row.kind row) where
  is : x ≡ span_of v n r
  unfolding span_of gathered
  is =
      given
      ∙ ap (λ (y : Row). gather no_span (variable_span v) join_span (span_in (take r spans)) y.kind y) this_row
      ∙ ap (λ (child : ℕ → Span). gather no_span (variable_span v) join_span child (row_at n r).kind (row_at n r))
      (table_below (span_of v n) r old spans table (omega arith))
      ∙ sym (rec_eq no_span
      (λ child k. gather no_span (variable_span v) join_span child (row_at n k).kind (row_at n k)) r)

  -- one node more
  pub spans_next : Spans (span_of v n) (r + 1) old (set spans r x)
  unfolding span_in
  spans_next = record {
    cells = length-set spans r x ∙ table.cells;
    holds = λ k h. go k h (dec_lt k r);
    rest = λ k h. get_or-set_other spans r k x no_span (omega arith) ∙ table.rest k (omega arith);
  }
    where
      go : (k : ℕ) → k < r + 1 → Dec (k < r) → get_or (set spans r x) k no_span ≡ span_of v n k
      go k h (yes l) = get_or-set_other spans r k x no_span (omega arith) ∙ table.holds k l
      go k h (no l) = let here : r ≡ k = omega arith in rw (← here) (get_or-set_same spans r x no_span inside ∙ is)

-- ---- the whole table

-- a node that is not there has no variables
span_missing : (v n : List ℕ) (k : ℕ) → rows_of n ≤ k → span_of v n k ≡ no_span
unfolding span_of gathered gather choose
span_missing v n k h =
    rec_eq no_span (λ child r. gather no_span (variable_span v) join_span child (row_at n r).kind (row_at n r)) k
    ∙ rw (row_missing n k h)

pub spans_known : (v n : List ℕ) (old spans : List Span) → Spans (span_of v n) (rows_of n) old spans
    → rows_of n ≤ length spans → (k : ℕ) → span_in (take (rows_of n) spans) k ≡ span_of v n k
spans_known v n old spans table room k = go (dec_lt k (rows_of n))
  where
    go : Dec (k < rows_of n) → span_in (take (rows_of n) spans) k ≡ span_of v n k
    go (yes h) = span_low (span_of v n) (rows_of n) old spans table room k h
    go (no h) =
        let missing : rows_of n ≤ k = omega arith in
        span_high (span_of v n) (rows_of n) old spans table room k missing ∙ sym (span_missing v n k missing)
