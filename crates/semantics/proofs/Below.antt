-- Finding and evaluating read the cells below top alone.
use mathlib.Core.Path.{◌≡◌, refl, sym, ◌∙◌, ap, fun_ext}
use mathlib.Core.Bool.{Bool, true, false}
use mathlib.Core.List.{List}
use Prim.Native.Nat.{ℕ, ◌≤◌, ◌<◌}
use native.Mathlib.Omega.{arith}
use native.Mathlib.Decide.{dec_lt}
use borrow.Author.Tests.{ltb-true}
use lib.Dec.{ltb}
use Rattle.prelude.specs.Choice.{choose}
use Rattle.prelude.proofs.Rec.{rec_rel}
use Rattle.image.specs.declared.Row.{Row}
use Rattle.image.specs.Rows.{row_at}
use Rattle.semantics.specs.Memory.{Memory, cell_at, value_at, mark_at}
use Rattle.semantics.specs.Layout.{Program}
use Rattle.semantics.specs.Finding.{parameter_place, variable_place, Meaning, no_meaning, designator, meaning_by, meaning_of}
use Rattle.semantics.specs.Finding.{find_of, eval_of, Found}

module _ {X : Type 0} (m : Memory X) (g : Program) (base top : ℕ) (cells others : List X)
    (same : (a : ℕ) → a < top → cell_at m others a ≡ cell_at m cells a) where
  -- what is asked of a cell below top
  below : {Y : Type 0} (ask : X → Y) (none : Y) (a : ℕ)
      → choose (ltb a top) (ask (cell_at m others a)) none ≡ choose (ltb a top) (ask (cell_at m cells a)) none
  unfolding choose
  below ask none a = go (ltb a top) refl
    where
      go : (b : Bool) → ltb a top ≡ b
          → choose b (ask (cell_at m others a)) none ≡ choose b (ask (cell_at m cells a)) none
      go true e = ap ask (same a (ltb-true _ _ e))
      go false e = refl

  value_below : (kind a : ℕ) → value_at m top others kind a ≡ value_at m top cells kind a
  unfolding value_at
  value_below kind a = below (m.held kind) _ a

  pub mark_below : (kind a : ℕ) → mark_at m top others kind a ≡ mark_at m top cells kind a
  unfolding mark_at
  mark_below kind a = below (m.marked kind) _ a

  variable_below : (a : ℕ) (row : Row) → variable_place m g base top others a row ≡ variable_place m g base top cells a row
  unfolding variable_place parameter_place
  variable_below a row = simp mark_below

  designator_below : (found : Found) → designator m g top others found ≡ designator m g top cells found
  unfolding designator
  designator_below found = simp value_below

  row_below : (child : ℕ → Meaning) (kind : ℕ) (row : Row)
      → meaning_by m g base top others child kind row ≡ meaning_by m g base top cells child kind row
  unfolding meaning_by
  row_below child kind row = simp (variable_below, designator_below)

  meaning_below : (r : ℕ) → meaning_of m g base top others r ≡ meaning_of m g base top cells r
  unfolding meaning_of
  meaning_below r =
      rec_rel no_meaning no_meaning
      (λ child r. meaning_by m g base top others child (row_at g.nodes r).kind (row_at g.nodes r))
      (λ child r. meaning_by m g base top cells child (row_at g.nodes r).kind (row_at g.nodes r)) (λ k x y. x ≡ y)
      (λ k child child' low high.
      ap (λ (c : ℕ → Meaning). meaning_by m g base top others c (row_at g.nodes k).kind (row_at g.nodes k))
      (fun_ext (λ j. both child child' k low high j (dec_lt j k)))
      ∙ row_below child' (row_at g.nodes k).kind (row_at g.nodes k)) r
    where
      both : (child child' : ℕ → Meaning) (k : ℕ) → ((j : ℕ) → j < k → child j ≡ child' j)
          → ((j : ℕ) → k ≤ j → (child j ≡ no_meaning) × (child' j ≡ no_meaning)) → (j : ℕ) → Dec (j < k)
          → child j ≡ child' j
      both child child' k low high j (yes h) = low j h
      both child child' k low high j (no h) = let (p, q) = high j (omega arith) in p ∙ sym q

  pub find_below : (r : ℕ) → find_of m g base top others r ≡ find_of m g base top cells r
  unfolding find_of
  find_below r = ap (λ (x : Meaning). x.place) (meaning_below r)

  pub eval_below : (r : ℕ) → eval_of m g base top others r ≡ eval_of m g base top cells r
  unfolding eval_of
  eval_below r = ap (λ (x : Meaning). x.value) (meaning_below r)
