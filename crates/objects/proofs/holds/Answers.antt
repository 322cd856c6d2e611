use mathlib.Core.Path.{sym, ◌∙◌}
use native.Mathlib.Omega.{arith}
use Rattle.objects.proofs.Looks.{edges_less}
use Rattle.objects.proofs.Deciding.{by_inner}
use Rattle.objects.proofs.holds.Goals as goal

pub returns-then-o-size-2 : goal.returns-then-o-size-2
returns-then-o-size-2 c = c.reached.ensures (edges_less (let low = c.requires.3 in omega arith) (c.requires.1.each c.args.w))
    ∙ sym (by_inner c.requires.0 c.args.w c.args.r c.requires.3 c.args.o
    c.if-o-eq0.false)
