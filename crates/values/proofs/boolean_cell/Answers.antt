use mathlib.Core.Path.{sym}
use native.Mathlib.Omega.{arith}
use Rattle.prelude.specs.Choice.{choose}
use Rattle.values.specs.Values.{boolean_cell}
use Rattle.values.proofs.Numbers.{bits_are, no_boolean}
use Rattle.values.proofs.boolean_cell.Goals as goal

-- `values::boolean_cell` meets its contract: only the bits of 0 and 1 are those of a BOOLEAN.
pub returns-then-z-eq0 : goal.returns-then-z-eq0
unfolding boolean_cell choose
returns-then-z-eq0 c = rw (bits_are c.args.z c.ranges.z 0 (omega arith) c.if-z-eq0.true)

pub returns-then-z-eq1 : goal.returns-then-z-eq1
unfolding boolean_cell choose
returns-then-z-eq1 c = rw (bits_are c.args.z c.ranges.z 1 (omega arith) c.if-z-eq1.true)

pub returns-else-z-eq1 : goal.returns-else-z-eq1
returns-else-z-eq1 c = sym (no_boolean c.args.z c.if-z-eq0.false c.if-z-eq1.false)
