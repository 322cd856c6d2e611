use Rattle.rules.specs.Rules.{argument_rule, types_in, owned_in}
use Rattle.image.specs.Faults.{KeptIn}
use Prim.Native.Nat.{◌+◌}
use Rattle.rules.proofs.Body.call_rule.Given as goal

abbrev pub invariant-loop-j : goal.invariant-loop-j
invariant-loop-j l =
    let b = l.self in
    KeptIn (λ i. argument_rule b.t.now b.v.now b.n.now (types_in b) (owned_in b) (l.argument + i) (l.parameter + i)) 0 l.j
