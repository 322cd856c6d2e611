use Rattle.calling.proofs.Arguments.{along_none, along_next, along_lost, along_end}
use Rattle.calling.proofs.Arguments.{stands_kept, roomy_kept}
use Rattle.calling.proofs.pass_all.Goals as goal

pub loop-j-init : goal.loop-j-init
loop-j-init c = along_none

pub pass-one-requires : goal.pass-one-requires
pass-one-requires c =
    let few = c.loop-j.invariant.kept in (
      stands_kept c.requires.0 few,
      roomy_kept (c.requires.4 c.loop-j.j c.loop-j-test.true) few,
    )

pub returns-in_default : goal.returns-in_default
returns-in_default c =
    λ output.
    along_lost c.loop-j.invariant c.loop-j-test.true c.in_default.not-Ok output
    (c.pass-one.ensures output)

pub loop-j-preserved : goal.loop-j-preserved
loop-j-preserved c =
    let one = c.pass-one in
    along_next c.loop-j.invariant c.loop-j-test.true one.auto.store
    (λ output. rw c.in-Ok.is at (one.ensures output))

pub shape_of-store : goal.shape_of-store
shape_of-store c = c.loop-j.invariant.kept

pub returns : goal.returns
returns c = λ output. along_end c.loop-j.invariant c.loop-j-test.false output
