use mathlib.Core.Path.{sym}
use lib.IntN.{pos}
use Rattle.values.proofs.Numbers.{plain64, reaches, falls_short, set_neg, set_large, set_fits, set_is}
use Rattle.values.proofs.set_cell.Goals as goal
use Rattle.values.proofs.set_cell.Goals.{else-z-ge0-via-then-z-ge0+else-z-le4294967295, else-z-ge0-via-else-z-ge0}

-- `values::set_cell` meets its contract: the tests leave the numbers of 32 bits.
pub overflow_cast-result : goal.overflow_cast-result
overflow_cast-result c =
    let z = c.args.z in
    let e = plain64 z c.ranges.z in
    let low = reaches (pos 0) z (rw e at c.if-z-ge0.true) in
    rw e (set_fits z low (reaches z (pos 4294967295) (rw e at c.if-z-le4294967295.true)))

pub returns-then-z-le4294967295 : goal.returns-then-z-le4294967295
returns-then-z-le4294967295 c =
    let z = c.args.z in
    let e = plain64 z c.ranges.z in
    let low = reaches (pos 0) z (rw e at c.if-z-ge0.true) in
    rw e (sym (set_is z low (reaches z (pos 4294967295) (rw e at c.if-z-le4294967295.true))))

pub returns-else-z-ge0 : goal.returns-else-z-ge0
returns-else-z-ge0 c =
    let z = c.args.z in
    let e = plain64 z c.ranges.z in
    elim c.else-z-ge0.branch [
      | else-z-ge0-via-then-z-ge0+else-z-le4294967295 w ↦
          sym (set_large z (falls_short z (pos 4294967295) (rw e at w.if-z-le4294967295.false)))
      | else-z-ge0-via-else-z-ge0 w ↦ sym (set_neg z (falls_short (pos 0) z (rw e at w.if-z-ge0.false)))
    ]
