use mathlib.Core.Path.{◌≡◌, sym, ap, ◌∙◌}
use Prim.Native.Nat.{◌/◌, ◌<◌}
use native.Mathlib.Omega.{arith}
use native.Mathlib.Nat.{div-le_self}
use lib.IntN.{negsuc}
use lib.Signed.{mag}
use Rattle.values.proofs.Numbers.{plain64, of_nat64, below_zero}
use Rattle.integers.proofs.Signs.{quotient_neg, quotient_pos}
use Rattle.integers.proofs.quotient.Goals as goal
use Rattle.integers.proofs.quotient.Goals.{After-magnitude}

-- `integers::quotient` meets its contract: by the sign of the dividend, through magnitudes.
m-is : (c : After-magnitude) → c.magnitude.result ≡ mag c.args.x
m-is c = c.magnitude.ensures ∙ ap mag (plain64 _ c.ranges.x)

-- the quotient is no larger than x
small : (c : After-magnitude) → c.magnitude.result / c.args.d < 9223372036854775808
small c =
    let m = c.magnitude.result in
    omega (arith, div-le_self m c.args.d, m-is c, c.requires.0)

pub overflow_cast-q : goal.overflow_cast-q
overflow_cast-q c = record { sfits = small (goal.at.overflow_cast-q c).After-magnitude }

pub overflow_sub-result : goal.overflow_sub-result
overflow_sub-result c = rw (of_nat64 _ (small (goal.at.overflow_sub-result c).After-magnitude), below_zero _) (record { sfits = small (goal.at.overflow_sub-result c).After-magnitude })

pub returns-then-x-lt0 : goal.returns-then-x-lt0
returns-then-x-lt0 c =
    rw (of_nat64 _ (small (goal.at.returns-then-x-lt0 c).After-magnitude), below_zero _, plain64 (negsuc _) (record { sfits = small (goal.at.returns-then-x-lt0 c).After-magnitude }), m-is (goal.at.returns-then-x-lt0 c).After-magnitude)
    (sym (quotient_neg c.args.x c.args.d (rw (plain64 _ c.ranges.x) at c.if-x-lt0.true)))

pub returns-else-x-lt0 : goal.returns-else-x-lt0
returns-else-x-lt0 c =
    rw (of_nat64 _ (small (goal.at.returns-else-x-lt0 c).After-magnitude), m-is (goal.at.returns-else-x-lt0 c).After-magnitude)
    (sym (quotient_pos c.args.x c.args.d (rw (plain64 _ c.ranges.x) at c.if-x-lt0.false)))
