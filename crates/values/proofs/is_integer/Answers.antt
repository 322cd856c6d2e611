use lib.IntN.{pos, negsuc}
use Rattle.prelude.specs.Choice.{choose}
use Rattle.values.specs.Values.{is_integer}
use Rattle.values.proofs.Numbers.{plain64, reaches, falls_short, at_most}
use Rattle.values.proofs.is_integer.Goals as goal

-- `values::is_integer` meets its contract: the tests are those of the definition.
pub returns-then-z-geminus2147483648 : goal.returns-then-z-geminus2147483648
unfolding is_integer choose
returns-then-z-geminus2147483648 c =
    let z = c.args.z in
    let e = plain64 z c.ranges.z in
    rw (e, reaches (negsuc 2147483647) z (rw e at c.if-z-geminus2147483648.true), at_most z (pos 2147483647))

pub returns-else-z-geminus2147483648 : goal.returns-else-z-geminus2147483648
unfolding is_integer choose
returns-else-z-geminus2147483648 c =
    let z = c.args.z in
    let low = rw (plain64 z c.ranges.z) at c.if-z-geminus2147483648.false in
    rw (falls_short (negsuc 2147483647) z low, c.if-z-geminus2147483648.false)
