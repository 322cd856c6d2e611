-- Laws of finding and evaluating, for any memory: a node by the kind of its row, and the nodes that it names.
use mathlib.Core.Path.{◌≡◌, refl, sym, ap, ◌∙◌}
use mathlib.Core.Bool.{Bool, true, false}
use mathlib.Core.List.{List}
use Prim.Native.Nat.{ℕ, ◌≤◌, ◌<◌}
use borrow.Author.Tests.{ne_eqb}
use lib.Dec.{eqb}
use Rattle.prelude.specs.Choice.{choose}
use Rattle.prelude.specs.Rec.{below}
use Rattle.prelude.proofs.Choice.{choose_no}
use Rattle.prelude.proofs.Rec.{rec_eq, below_low, below_high}
use Rattle.image.specs.declared.Row.{Row}
use Rattle.image.specs.Rows.{row_at}
use Rattle.semantics.specs.Memory.{Memory}
use Rattle.semantics.specs.Layout.{Program}
use Rattle.semantics.specs.Finding.{Meaning, no_meaning, expression, meaning_by, meaning_of, find_of, eval_of, Found}
use Rattle.std.specs.Prelude.{Err}
use Rattle.values.specs.declared.Stop.TheVariants as St
use Rattle.values.specs.Values.{Answer}

-- an expression designates no object
no_object : (b : Bool) (answer : Answer) (other : Meaning) → other.place ≡ Err St.Stuck
    → (choose b (expression answer) other).place ≡ Err St.Stuck
unfolding choose
no_object true answer other h = refl
no_object false answer other h = h

module _ {X : Type 0} (m : Memory X) (g : Program) (base top : ℕ) (cells : List X) (r : ℕ) where
  -- what the nodes below row r mean
  abbrev pub lower : ℕ → Meaning
  lower = below no_meaning r (meaning_of m g base top cells)

  -- a node by its row, whose kind may be a numeral
  by_kind : (row : Row) → row ≡ row_at g.nodes r → (kind : ℕ) → row.kind ≡ kind
      → meaning_of m g base top cells r ≡ meaning_by m g base top cells lower kind row
  unfolding meaning_of
  by_kind row e kind k =
      rec_eq no_meaning (λ child r. meaning_by m g base top cells child (row_at g.nodes r).kind (row_at g.nodes r)) r
      ∙ ap (λ (x : Row). meaning_by m g base top cells lower x.kind x) (sym e)
      ∙ ap (λ (j : ℕ). meaning_by m g base top cells lower j row) k

  -- what it designates
  pub find_row : (row : Row) → row ≡ row_at g.nodes r → (kind : ℕ) → row.kind ≡ kind
      → find_of m g base top cells r ≡ (meaning_by m g base top cells lower kind row).place
  unfolding find_of
  find_row row e kind k = ap (λ (x : Meaning). x.place) (by_kind row e kind k)

  -- and what it is worth
  pub eval_row : (row : Row) → row ≡ row_at g.nodes r → (kind : ℕ) → row.kind ≡ kind
      → eval_of m g base top cells r ≡ (meaning_by m g base top cells lower kind row).value
  unfolding eval_of
  eval_row row e kind k = ap (λ (x : Meaning). x.value) (by_kind row e kind k)

  -- what a lower node designates
  pub find_lower : (k : ℕ) {found : Found} → k < r → found ≡ find_of m g base top cells k → (lower k).place ≡ found
  unfolding find_of
  find_lower k l e = ap (λ (x : Meaning). x.place) (below_low _ r _ k l) ∙ sym e

  -- and what it is worth
  pub eval_lower : (k : ℕ) {answer : Answer} → k < r → answer ≡ eval_of m g base top cells k → (lower k).value ≡ answer
  unfolding eval_of
  eval_lower k l e = ap (λ (x : Meaning). x.value) (below_low _ r _ k l) ∙ sym e

  -- a node that is not lower
  pub not_lower : (k : ℕ) → r ≤ k → lower k ≡ no_meaning
  not_lower k l = below_high _ r _ k l

  -- an expression that is no designator, and no node at all
  pub find_other : (row : Row) → row ≡ row_at g.nodes r → (row.kind ≡ 1 → ⊥) → (row.kind ≡ 2 → ⊥)
      → (row.kind ≡ 3 → ⊥) → (row.kind ≡ 4 → ⊥) → (row.kind ≡ 8 → ⊥) → find_of m g base top cells r ≡ Err St.Stuck
  unfolding meaning_by
  find_other row e p1 p2 p3 p4 p8 =
      let k : ℕ = row.kind in
      find_row row e k refl
      ∙ no_object (eqb k 0) _ _
      (ap (λ (x : Meaning). x.place)
      (choose_no _ _ _ (ne_eqb k 1 p1) ∙ choose_no _ _ _ (ne_eqb k 2 p2) ∙ choose_no _ _ _ (ne_eqb k 3 p3)
      ∙ choose_no _ _ _ (ne_eqb k 4 p4))
      ∙ no_object (eqb k 5) _ _ (no_object (eqb k 6) _ _ (no_object (eqb k 7) _ _
      (ap (λ (x : Meaning). x.place) (choose_no _ _ _ (ne_eqb k 8 p8))))))
