use mathlib.Core.Path.{◌∙◌}
use native.Mathlib.Omega.{arith}
use Prim.Native.Nat.{◌+◌, ◌*◌}
use borrow.Author.Tests.{ne_eqb}
use Rattle.prelude.specs.Choice.{choose}
use Rattle.values.specs.Values.{constant_of}
use Rattle.values.proofs.Numbers.{plain32, signed_is, of_nat64}
use borrow.Author.Rules.{rules}
use Rattle.values.proofs.constant.Goals as goal

pub returns-in-0 : goal.returns-in-0
unfolding constant_of choose
returns-in-0 c =
    let a = c.args in
    c.boolean_cell.ensures ∙ rw (of_nat64 (a.b * 65536 + a.c) (omega arith), c.in-0.is)

pub returns-in-1 : goal.returns-in-1
unfolding constant_of choose
returns-in-1 c =
    let a = c.args in
    rw (plain32 c.cast_signed.result (search rules), c.cast_signed.ensures)
    (rw (signed_is (a.b * 65536 + a.c) (omega arith), c.in-1.is))

pub returns-in-2 : goal.returns-in-2
unfolding constant_of choose
returns-in-2 c = rw c.in-2.is

pub returns-in_default : goal.returns-in_default
unfolding constant_of choose
returns-in_default c = let m = c.in_default.in_default-own.rest in rw (ne_eqb _ 0 m.0.0.1, ne_eqb _ 1 m.0.1, ne_eqb _ 2 m.1)
