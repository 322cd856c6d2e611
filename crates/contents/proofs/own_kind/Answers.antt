use mathlib.Core.Path.{sym, ◌∙◌, ap}
use native.Mathlib.Nat.{add-sub_cancel_left}
use lib.ListN.{get_or}
use Rattle.image.specs.declared.Row.{Row}
use Rattle.contents.specs.Kinds.{joint}
use Rattle.contents.proofs.Evens.{joint_step, joint_end}
use Rattle.contents.proofs.own_kind.Goals as goal

pub loop-j-init : goal.loop-j-init
loop-j-init c = rw (add-sub_cancel_left c.args.k c.args.n)

pub loop-j-preserved : goal.loop-j-preserved
loop-j-preserved c =
    let l = c.loop-j in
    let told = c.kind_at-next.ensures
    ∙ ap (λ (x : Row). get_or c.args.even.now x.a 0) c.row_at-row.ensures in
    l.invariant
    ∙ joint_step _ _ l.j _ l.kind c.loop-j-test.true (c.joint-kind.ensures ∙ ap (joint l.kind) told)

pub returns : goal.returns
returns c = let l = c.loop-j in sym (l.invariant ∙ joint_end _ _ l.j _ l.kind c.loop-j-test.false)
