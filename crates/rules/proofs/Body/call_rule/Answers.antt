use Rattle.rules.proofs.Ruling.{call_is}
use Rattle.rules.specs.Rules.{types_in, owned_in}
use Rattle.image.proofs.Faults.{each_all, not_all}
use native.Mathlib.Omega.{arith}
use Prim.Native.Nat.{◌+◌}
use mathlib.Core.Path.{◌≡◌, sym, ◌∙◌}
use Rattle.rules.proofs.Body.call_rule.Goals as goal

pub returns-then-not-argument_rule : goal.returns-then-not-argument_rule
returns-then-not-argument_rule c =
    let b = c.args.self.now in
    let call = call_is b.t.now b.v.now b.p.now b.n.now b.firsts.now (types_in b) (owned_in b) c.requires c.args.row _ _
    c.row_at-called.ensures c.cell-parameter.ensures in
    let no = sym c.argument_rule.ensures ∙ c.if-not-argument_rule.true in
    rw (← call) (sym (not_all _ _ _ _ (omega arith) (omega arith) no))

pub returns : goal.returns
returns c =
    let b = c.args.self.now in
    let l = c.loop-j in
    let call = call_is b.t.now b.v.now b.p.now b.n.now b.firsts.now (types_in b) (owned_in b) c.requires c.args.row _ _
    c.row_at-called.ensures c.cell-parameter.ensures in
    let all : l.j ≡ 0 + c.row_at-called.result.b = omega arith in
    rw (← call) (sym (each_all _ _ 0 (rw all at l.invariant)))
