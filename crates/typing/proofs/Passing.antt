-- Laws of the loop that fills the table of types.
use Rattle.std.specs.Prelude.{Option, Some, None, Ok, Err}
use mathlib.Core.Path.{◌≡◌, refl, sym, ◌∙◌, ap, fun_ext}
use mathlib.Core.List.{List}
use Prim.Native.Nat.{ℕ, ◌+◌, ◌≤◌, ◌<◌}
use native.Mathlib.Omega.{arith}
use native.Mathlib.Decide.{dec_lt}
use borrow.Author.Tests.{lt-ltb, le-ltb}
use lib.ListN.{length, get_or, take, set, length-set}
use lib.Seq.{length-take-le, get_or-take, get_or-set_same, get_or-set_other}
use Rattle.prelude.proofs.Choice.{choose_yes, choose_no}
use Rattle.prelude.specs.Choice.{choose}
use Rattle.prelude.specs.Rec.{below}
use Rattle.prelude.proofs.Rec.{below_low, below_high, rec_eq}
use Rattle.image.specs.declared.Row.{Row}
use Rattle.image.specs.Rows.{row_at, rows_of}
use Rattle.image.proofs.Bytes.{row_missing}
use Rattle.image.specs.Faults.{KeptIn}
use Rattle.image.proofs.Faults.{kept_none, kept_next, scan_bad, scan_end}
use Rattle.typing.specs.Typing.{type_by, type_of, has_type, question10, type_in, Typed}

-- a table of the lower rows' types
table_below : (type : ℕ → Option ℕ) (m : ℕ) (old types : List ℕ) → Typed type m old types → m ≤ length types
    → type_in (take m types) ≡ below None m type
unfolding type_in
table_below type m old types table room = fun_ext (λ k. go k (dec_lt k m))
  where
    long : length (take m types) ≡ m
    long = length-take-le m types room

    go : (k : ℕ) → Dec (k < m) → type_in (take m types) k ≡ below None m type k
    go k (yes h) =
        choose_yes _ _ _ (lt-ltb k (length (take m types)) (rw long h))
        ∙ ap Some (get_or-take m types k 0 h)
        ∙ sym (table.holds k h)
        ∙ sym (below_low None m type k h)
    go k (no h) =
        let past : m ≤ k = omega arith in
        choose_no _ _ _ (le-ltb k (length (take m types)) (rw long past)) ∙ sym (below_high None m type k past)

-- the nodes below r have types, which the table holds
pub record Filled (t f v n old types : List ℕ) (r : ℕ) : Type 0 where
  pub kept : KeptIn (λ k. has_type (type_of t f v n k)) 0 r
  pub table : Typed (type_of t f v n) r old types

pub filled_none : (t f v n old : List ℕ) → Filled t f v n old old 0
filled_none t f v n old = record {
  kept = kept_none _ 0;
  table = record { cells = refl; holds = λ k h. absurd (omega arith); rest = λ k h. refl };
}

module _ (t f v n old types : List ℕ) (r : ℕ) (p : Filled t f v n old types r) where
  module _ (more : r < rows_of n) (inside : r < length types) (row : Row) (this_row : row ≡ row_at n r) (x : Option ℕ)
      (given : x ≡ type_by t f v (type_in (take r types)) row.kind row) where
    pub type_here : type_of t f v n r ≡ x
    unfolding type_of
    type_here =
        rec_eq None (λ type k. type_by t f v type (row_at n k).kind (row_at n k)) r
        ∙ ap (λ (type : ℕ → Option ℕ). type_by t f v type (row_at n r).kind (row_at n r))
        (sym (table_below (type_of t f v n) r old types p.table (omega arith)))
        ∙ ap (λ (k : Row). type_by t f v (type_in (take r types)) k.kind k) (sym this_row)
        ∙ sym given

    pub untyped_bad : x ≡ None → Err r ≡ question10 t f v n
    unfolding question10 has_type
    untyped_bad none = scan_bad _ (rows_of n) r p.kept more (ap has_type (type_here ∙ none))

    pub filled_next : (type : ℕ) → x ≡ Some type → Filled t f v n old (set types r type) (r + 1)
    unfolding has_type
    filled_next type known = record {
      kept = kept_next _ 0 r p.kept (ap has_type (type_here ∙ known));
      table = record {
        cells = length-set types r type ∙ p.table.cells;
        holds = λ k h. go k (dec_lt k r) h;
        rest = λ k h. get_or-set_other types r k type 0 (omega arith) ∙ p.table.rest k (omega arith);
      };
    }
      where
        go : (k : ℕ) → Dec (k < r) → k < r + 1 → type_of t f v n k ≡ Some (get_or (set types r type) k 0)
        go k (yes l) h = p.table.holds k l ∙ ap Some (sym (get_or-set_other types r k type 0 (omega arith)))
        go k (no l) h =
            let q : r ≡ k = omega arith in
            rw (← q) (type_here ∙ known ∙ ap Some (sym (get_or-set_same types r type 0 inside)))

  pub all_typed : rows_of n ≤ r → Ok tt ≡ question10 t f v n
  unfolding question10
  all_typed done = scan_end _ (rows_of n) r p.kept done

-- ---- the whole table

-- a node that is not there has no type
pub type_missing : (t f v n : List ℕ) (k : ℕ) → rows_of n ≤ k → type_of t f v n k ≡ None
unfolding type_of type_by choose
type_missing t f v n k h =
    rec_eq None (λ type r. type_by t f v type (row_at n r).kind (row_at n r)) k ∙ rw (row_missing n k h)

pub types_known : (t f v n old types : List ℕ) → Typed (type_of t f v n) (rows_of n) old types → rows_of n ≤ length types
    → type_in (take (rows_of n) types) ≡ type_of t f v n
types_known t f v n old types table room = table_below (type_of t f v n) (rows_of n) old types table room ∙ fun_ext (λ k. go k (dec_lt k (rows_of n)))
  where
    go : (k : ℕ) → Dec (k < rows_of n) → below None (rows_of n) (type_of t f v n) k ≡ type_of t f v n k
    go k (yes h) = below_low None (rows_of n) (type_of t f v n) k h
    go k (no h) =
        let missing : rows_of n ≤ k = omega arith in
        below_high None (rows_of n) (type_of t f v n) k missing ∙ sym (type_missing t f v n k missing)
