-- The test of a variable's values, by its kind.
use mathlib.Core.Path.{◌≡◌, refl, sym, ◌∙◌, ap}
use mathlib.Core.Bool.{true}
use mathlib.Core.List.{List, [], ◌∷◌}
use Prim.Native.Nat.{ℕ, ◌+◌, ◌≤◌, ◌<◌}
use native.Mathlib.Omega.{arith}
use borrow.Author.Tests.{eq-eqb, ne_eqb}
use lib.IntN.{ℤ}
use Rattle.prelude.proofs.Choice.{choose_yes, choose_no}
use lib.ListN.{length}
use Rattle.image.specs.Rows.{row_at, rows_of}
use Rattle.shapes.specs.Sizes.{size_of, layout_of}
use Rattle.shapes.proofs.Layouts.{layout_length}
use Rattle.places.specs.Places.{width_of}
use Rattle.places.proofs.Rooms.{width_other}
use Rattle.semantics.specs.Layout.{Program}
use Rattle.semantics.specs.Running.{program_of}
use Rattle.access.specs.Ready.{Planned}
use Rattle.access.proofs.Bounds.{variable_typed}
use Rattle.unwinding.proofs.Next.{bare_other}
use Rattle.contents.specs.Reading.{Inside}
use Rattle.asking.specs.State.{values_kept}
use Rattle.asking.specs.Passes.{value_test}

module _ (g : Program) (k : ℕ) (l : List ℤ) where
  pub test_reference : (row_at g.variables k).kind ≡ 3 → value_test g k l ≡ true
  unfolding value_test
  test_reference e = choose_yes _ _ _ (eq-eqb _ 3 e)

  pub test_value : ((row_at g.variables k).kind ≡ 3 → ⊥)
      → value_test g k l ≡ values_kept (layout_of g.types g.fields (row_at g.variables k).a) l
  unfolding value_test
  test_value e = choose_no _ _ _ (ne_eqb _ 3 e)

empty : (l : List ℕ) → length l ≡ 0 → l ≡ []
empty [] none = refl
empty (x ∷ l) none = absurd (omega arith)

-- a variable without cells passes
pub test_free : (g : Program) (k : ℕ) (l : List ℤ) → width_of g.types g.fields g.variables k ≡ 0
    → value_test g k l ≡ true
unfolding values_kept
test_free g k l none =
    let other = bare_other g k none in
    let size = width_other (size_of g.types g.fields) g.variables k other in
    let row = (row_at g.variables k).a in
    let long = layout_length g.types g.fields row ∙ sym size ∙ none in
    let bare = empty (layout_of g.types g.fields row) long in
    test_value g k l other ∙ ap (λ kinds. values_kept kinds l) bare

-- its cells are those of its type
pub inside_value : {image plan : List ℕ} {store : List ℤ} → Planned image plan → (k a : ℕ)
    → k < rows_of (program_of image).variables → ((row_at (program_of image).variables k).kind ≡ 3 → ⊥)
    → a + width_of (program_of image).types (program_of image).fields (program_of image).variables k ≤ length store
    → Inside (program_of image).types (program_of image).fields store (row_at (program_of image).variables k).a a
inside_value {image} p k a there e room = record {
  row = variable_typed p k there;
  room =
      rw (width_other (size_of (program_of image).types (program_of image).fields) (program_of image).variables k e)
      at room;
}
