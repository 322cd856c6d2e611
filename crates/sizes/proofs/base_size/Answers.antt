use native.Mathlib.Omega.{arith}
use Rattle.shapes.proofs.Rows.{of_no_base, of_row}
use mathlib.Core.Path.{sym, ◌∙◌}
use Rattle.sizes.proofs.base_size.Goals as goal

pub returns-in_default : goal.returns-in_default
returns-in_default c = sym (of_no_base _ _ _ (omega arith))

pub returns : goal.returns
returns c = c.cell.ensures ∙ sym (of_row _ _ (omega arith))
