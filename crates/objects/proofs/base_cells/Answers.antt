use mathlib.Core.Path.{◌≡◌, sym}
use Prim.Native.Nat.{suc}
use native.Mathlib.Omega.{arith}
use Rattle.shapes.proofs.Rows.{of_no_base, of_row}
use Rattle.objects.specs.Looking.{held}
use Rattle.objects.proofs.base_cells.Goals as goal

pub returns-in_default : goal.returns-in_default
returns-in_default c = sym (of_no_base _ _ _ (omega arith))

pub returns : goal.returns
returns c = let some : c.args.a ≡ suc c.in-Some.base = omega arith in sym (of_row 0 (held c.args.plan.now) some)
