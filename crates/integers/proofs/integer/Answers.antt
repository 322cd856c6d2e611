use mathlib.Core.Path.{◌≡◌, sym, ap, ◌∙◌}
use mathlib.Core.Bool.{true}
use Rattle.prelude.specs.Choice.{choose}
use Rattle.values.specs.Values.{is_integer}
use Rattle.integers.specs.Integers.{integer_of}
use Rattle.values.specs.declared.Value.TheVariants as Vs
use Rattle.values.proofs.Numbers.{plain32, plain64, integer_fits}
use Rattle.integers.proofs.integer.Goals as goal
use Rattle.integers.proofs.integer.Goals.{Then-is_integer}
use Rattle.std.specs.Prelude.{Ok}

-- `integers::integer` meets its contract: a number in the range fits 32 bits.
taken : (c : Then-is_integer) → is_integer c.args.z ≡ true
taken c = rw (plain64 _ c.ranges.z) at (sym c.is_integer.ensures ∙ c.if-is_integer.true)

pub overflow_cast-result : goal.overflow_cast-result
overflow_cast-result c =
    let b = (goal.at.overflow_cast-result c).Then-is_integer in
    rw (plain64 _ c.ranges.z) (integer_fits _ (taken b))

pub returns-then-is_integer : goal.returns-then-is_integer
unfolding integer_of choose
returns-then-is_integer c =
    let b = (goal.at.returns-then-is_integer c).Then-is_integer in
    rw (plain64 _ c.ranges.z, taken b)
    (ap (λ z. Ok (Vs.Int z)) (plain32 c.args.z (integer_fits _ (taken b))))

pub returns-else-is_integer : goal.returns-else-is_integer
unfolding integer_of choose
returns-else-is_integer c =
    rw (rw (plain64 _ c.ranges.z) at (sym c.is_integer.ensures ∙ c.if-is_integer.false))
