use Rattle.objects.specs.Looking.{told_by}
use Rattle.objects.proofs.LookFromBool.from.Goals as goal

pub returns-then-b : goal.returns-then-b
unfolding told_by
returns-then-b c = rw c.if-b.true

pub returns-else-b : goal.returns-else-b
unfolding told_by
returns-else-b c = rw c.if-b.false
