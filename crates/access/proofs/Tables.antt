-- Where the plan says that the six tables stand in the image, there they stand.
use mathlib.Core.Path.{◌≡◌, sym}
use mathlib.Core.List.{List}
use Prim.Native.Nat.{ℕ, zero, suc, ◌+◌, ◌-◌, ◌*◌, ◌≤◌, ◌<◌}
use native.Mathlib.Omega.{arith}
use lib.ListN.{length, get_or, take, drop}
use Rattle.prelude.specs.Choice.{choose}
use Rattle.header.specs.declared.Table.{Table}
use Rattle.header.specs.Header.{tables_in, part_of}
use Rattle.header.proofs.Fitting.{Placed, Fits, header_fits}
use Rattle.sizes.specs.Cells.{BOUNDS}
use Rattle.checker.specs.Prepared.{bound_of}
use Rattle.checker.proofs.Accepted.{accepted_header}
use Rattle.checker.proofs.Bounds.{bounds_fit}
use Rattle.semantics.specs.Running.{program_of}
use Rattle.access.specs.Ready.{table_of, Checked}

-- a table is the part of the image from `start` to `end`
pub record Stands (image : List ℕ) (start end : ℕ) (table : List ℕ) : Type 0 where
  pub ordered : start ≤ end
  pub within : end ≤ length image
  pub part : take (end - start) (drop start image) ≡ table

placed_stands : {image : List ℕ} {from low high : ℕ} {t : Table} → Placed image from low high t
    → Stands image t.start t.end (part_of image t)
placed_stands p = record { ordered = omega (arith, p.end); within = p.within; part = sym p.part }

-- each of the six
stands : (image : List ℕ) → Fits image (tables_in image) → (k : ℕ) → k < 6
    → Stands image (bound_of (tables_in image) (2 * k)) (bound_of (tables_in image) (1 + 2 * k))
    (table_of (program_of image) k)
unfolding bound_of table_of program_of choose
stands image fits zero h = placed_stands fits.types
stands image fits (suc zero) h = placed_stands fits.fields
stands image fits (suc (suc zero)) h = placed_stands fits.variables
stands image fits (suc (suc (suc zero))) h = placed_stands fits.procedures
stands image fits (suc (suc (suc (suc zero)))) h = placed_stands fits.nodes
stands image fits (suc (suc (suc (suc (suc zero))))) h = placed_stands fits.statements
stands image fits (suc (suc (suc (suc (suc (suc k)))))) h = absurd (omega arith)

module _ {image plan : List ℕ} (p : Checked image plan) (k : ℕ) (h : k < 6) where
  fits : Fits image (tables_in image)
  fits = header_fits image (tables_in image) (accepted_header image p.accepted)

  start_is : get_or plan (BOUNDS + 2 * k) 0 ≡ bound_of (tables_in image) (2 * k)
  start_is = p.bound (2 * k) (omega arith)

  end_is : get_or plan (BOUNDS + 2 * k + 1) 0 ≡ bound_of (tables_in image) (1 + 2 * k)
  end_is = let at : BOUNDS + (1 + 2 * k) ≡ BOUNDS + 2 * k + 1 = omega arith in
      rw at at (p.bound (1 + 2 * k) (omega arith))

  -- the cells of table k
  pub table_stands : Stands image (get_or plan (BOUNDS + 2 * k) 0) (get_or plan (BOUNDS + 2 * k + 1) 0)
      (table_of (program_of image) k)
  table_stands = rw (start_is, end_is) (stands image fits k h)

  -- it ends early
  pub table_small : get_or plan (BOUNDS + 2 * k + 1) 0 ≤ 65536
  table_small = rw end_is ((bounds_fit image (tables_in image) fits).each (1 + 2 * k))
