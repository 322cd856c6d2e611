use native.Mathlib.Omega.{arith}
use mir.Syntax.{w32}
use Rattle.values.proofs.Numbers.{plain64, of_nat64, above_zero, mag_is, unsigned}
use Rattle.integers.proofs.magnitude.Goals as goal

-- `integers::magnitude` meets its contract: by the sign.
pub overflow_sub-result : goal.overflow_sub-result
overflow_sub-result c =
    let e = plain64 _ c.ranges.x in
    rw (e, above_zero _ (rw e at c.if-x-lt0.true)) (record { sfits = c.ranges.x.sfits })

pub overflow_cast-result : goal.overflow_cast-result
overflow_cast-result c =
    let e = plain64 _ c.ranges.x in
    rw (e, above_zero _ (rw e at c.if-x-lt0.true), of_nat64 _ c.ranges.x.sfits)
    (tt, record { fits = omega (arith, c.requires) })

pub overflow_cast-result-else-x-lt0 : goal.overflow_cast-result-else-x-lt0
overflow_cast-result-else-x-lt0 c =
    let e = plain64 _ c.ranges.x in
    rw e (unsigned w32 c.args.x (rw e at c.if-x-lt0.false) (record { fits = omega (arith, c.requires) }))

pub returns-then-x-lt0 : goal.returns-then-x-lt0
returns-then-x-lt0 c =
    let e = plain64 _ c.ranges.x in
    rw (e, above_zero _ (rw e at c.if-x-lt0.true), of_nat64 _ c.ranges.x.sfits)

pub returns-else-x-lt0 : goal.returns-else-x-lt0
returns-else-x-lt0 c = let e = plain64 _ c.ranges.x in rw e (mag_is c.args.x (rw e at c.if-x-lt0.false))
