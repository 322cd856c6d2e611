use mathlib.Core.Path.{◌∙◌}
use Prim.Native.Nat.{◌<◌}
use native.Mathlib.Omega.{arith}
use borrow.Author.Rules.{rules}
use lib.ListN.{length}
use Rattle.values.proofs.Numbers.{plain32}
use Rattle.cases_machine.specs.Records.{input_at}
use Rattle.cases_machine.proofs.Inputs.{inputs_next}
use Rattle.cases_machine.proofs.take_inputs.Goals as goal

pub loop-i-preserved : goal.loop-i-preserved
unfolding input_at
loop-i-preserved c =
    let l = c.loop-i in
    let room : l.i < length l.input = omega (arith, l.auto.input, c.loop-i-test.true) in
    inputs_next _ _ _ _ l.invariant room (plain32 c.signed_at.result (search rules) ∙ c.signed_at.ensures)
