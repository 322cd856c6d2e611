-- The types of fields and elements are rows of the types table.
use Rattle.relations.specs.Fields.{field_at, field_of}
use Rattle.std.specs.Prelude.{Some}
use mathlib.Core.Path.{◌≡◌}
use mathlib.Core.List.{List}
use Prim.Native.Nat.{ℕ, ◌<◌}
use native.Mathlib.Omega.{arith}
use Rattle.prelude.proofs.Each.{each_nth}
use Rattle.image.specs.Rows.{row_at, rows_of}
use Rattle.shapes.proofs.Accepted.{TypesKept}
use Rattle.shapes.proofs.ByKind.{array_row, fields_low}
use Rattle.relations.proofs.Fielding.{field_nth}

module _ (t f : List ℕ) (kept : TypesKept t f) where
  -- a field's type is a row
  pub field_row : (r n at x : ℕ) → r < rows_of t → field_of t f r n ≡ Some (field_at at x) → x < rows_of t
  field_row r n at x low e =
      let less = each_nth (fields_low t f kept r low) (field_nth t f r n at x e).1 in
      omega arith

  -- an element's type is a row
  pub element_row : (r : ℕ) → r < rows_of t → (row_at t r).kind ≡ 3 → (row_at t r).a < rows_of t
  element_row r low kind = let lower = (array_row t f kept r low kind).low in omega arith
