-- The filling of the cells, row by row.
use mathlib.Core.Path.{◌≡◌, sym, ◌∙◌, ap, fun_ext}
use mathlib.Core.List.{List}
use Prim.Native.Nat.{ℕ, ◌+◌, ◌≤◌, ◌<◌}
use native.Mathlib.Omega.{arith}
use native.Mathlib.Decide.{dec_lt}
use lib.ListN.{get_or}
use Rattle.prelude.specs.Cells.{Filled}
use Rattle.prelude.specs.Rec.{below}
use Rattle.prelude.proofs.Rec.{below_low, below_high}
use Rattle.image.specs.declared.Row.{Row}
use Rattle.image.specs.Rows.{row_at}
use Rattle.sizes.specs.Cells.{NODES}
use Rattle.designators.specs.Designators.{UNKNOWN, cell_by, cell_of}
use Rattle.designators.proofs.Designators.{cell_eq}

module _ (t f v n old plan : List ℕ) (r : ℕ) (filled : Filled NODES r (cell_of t f v n) old plan) where
  -- the plan has the cells of lower rows
  lower_cells : below UNKNOWN r (λ k. get_or plan (NODES + k) 0) ≡ below UNKNOWN r (cell_of t f v n)
  lower_cells = fun_ext (λ k. go k (dec_lt k r))
    where
      go : (k : ℕ) → Dec (k < r)
          → below UNKNOWN r (λ j. get_or plan (NODES + j) 0) k ≡ below UNKNOWN r (cell_of t f v n) k
      go k (yes h) =
          below_low UNKNOWN r (λ j. get_or plan (NODES + j) 0) k h
          ∙ filled.cell k h
          ∙ sym (below_low UNKNOWN r (cell_of t f v n) k h)
      go k (no h) =
          let past : r ≤ k = omega arith in
          below_high UNKNOWN r (λ j. get_or plan (NODES + j) 0) k past
          ∙ sym (below_high UNKNOWN r (cell_of t f v n) k past)

  -- what they give of the next row is its cell
  pub cell_next : {row : Row} {x : ℕ} → row ≡ row_at n r
      → x ≡ cell_by t f v (below UNKNOWN r (λ k. get_or plan (NODES + k) 0)) row.kind row → x ≡ cell_of t f v n r
  cell_next {row} here given =
      given
      ∙ ap (λ cell. cell_by t f v cell row.kind row) lower_cells
      ∙ ap (λ (k : Row). cell_by t f v (below UNKNOWN r (cell_of t f v n)) k.kind k) here
      ∙ sym (cell_eq t f v n r)
