-- Laws of the loop over nodes.
use mathlib.Core.Path.{◌≡◌}
use mathlib.Core.Bool.{true, false}
use mathlib.Core.List.{List}
use Prim.Native.Nat.{ℕ}
use borrow.Author.Tests.{eq-eqb, ne_eqb}
use Rattle.prelude.proofs.Choice.{also_yes, also_left, also_right}
use Rattle.image.specs.declared.Row.{Row}
use Rattle.image.specs.Rows.{row_at}
use Rattle.nodes.specs.Nodes.{form_kept, node_kept}

module _ (version types variables : ℕ) (n : List ℕ) (r : ℕ) (row : Row) (this_row : row ≡ row_at n r) where
  pub filled_bad : (row.zero ≡ 0 → ⊥) → node_kept version types variables n r ≡ false
  unfolding node_kept
  filled_bad h = rw (← this_row) (also_left _ (ne_eqb row.zero 0 h))

  pub form_bad : form_kept version types variables n r row.kind row ≡ false
      → node_kept version types variables n r ≡ false
  unfolding node_kept
  form_bad e = rw (← this_row) (also_right _ e)

  pub node_good : row.zero ≡ 0 → form_kept version types variables n r row.kind row ≡ true
      → node_kept version types variables n r ≡ true
  unfolding node_kept
  node_good z e = rw (← this_row) (also_yes (eq-eqb row.zero 0 z) e)
