use mathlib.Core.Path.{sym, ◌∙◌, ap}
use Prim.Native.Nat.{◌+◌}
use lib.ListN.{get_or}
use Rattle.prelude.proofs.Rec.{below_low, below_high}
use Rattle.designators.specs.Designators.{UNKNOWN, type_in}
use Rattle.sizes.specs.Cells.{NODES}
use Rattle.designators.proofs.type_below.Goals as goal

pub returns-then-r-child : goal.returns-then-r-child
returns-then-r-child c = let s = c.args in
    let none = below_high UNKNOWN s.r (λ k. get_or s.plan.now (NODES + k) 0) s.a c.if-r-child.true in
    c.type_in.ensures ∙ ap (λ k. type_in k) (sym none)

pub returns : goal.returns
returns c = let s = c.args in
    let less = c.if-r-child.false in
    let there = below_low UNKNOWN s.r (λ k. get_or s.plan.now (NODES + k) 0) s.a less in
    c.type_in-2.ensures ∙ ap (λ k. type_in k) (c.cell.ensures ∙ sym there)
