use mathlib.Core.Path.{refl, sym, ◌∙◌}
use Prim.Native.Nat.{◌+◌}
use native.Mathlib.Omega.{arith}
use borrow.Author.Tests.{eq-eqb, ne_eqb}
use Rattle.semantics.specs.Memory.{LINK, bare}
use Rattle.semantics.specs.Stepping.{returned}
use Rattle.calling.specs.Showing.{Shows.shows_end, Shows.shows_goes}
use Rattle.stepping.proofs.Showing.{shows_yes, shows_no, shows_mark, shows_no_mark, mark_below}
use Rattle.stepping.proofs.give_back.Goals as goal

pub returns-then-procedure-eq0 : goal.returns-then-procedure-eq0
unfolding returned
returns-then-procedure-eq0 c = λ output.
    rw (← c.procedure_of-procedure.ensures) (shows_yes _ (eq-eqb _ 0 c.if-procedure-eq0.true) (shows_end refl refl))

pub returns-in_default : goal.returns-in_default
unfolding returned
returns-in_default c = λ output.
    rw (← c.procedure_of-procedure.ensures)
    (shows_no _ (ne_eqb _ 0 c.if-procedure-eq0.false)
    (shows_no_mark _ (c.mark_at.ensures LINK) c.in_default.is))

pub returns-in_default-mark_at : goal.returns-in_default-mark_at
unfolding returned
returns-in_default-mark_at c = λ output.
    rw (← c.procedure_of-procedure.ensures)
    (shows_no _ (ne_eqb _ 0 c.if-procedure-eq0.false)
    (shows_mark _ (c.mark_at.ensures LINK) c.in-Some.is
    (shows_no_mark _ (c.mark_at-2.ensures LINK) c.in_default-mark_at.is)))

pub returns : goal.returns
unfolding returned
returns c = λ output.
    let linked = sym (c.mark_at-2.ensures LINK) ∙ c.in-Some-mark_at.is in
    let below = mark_below bare _ _ LINK (c.args.s.base + 2) linked in
    rw (← c.procedure_of-procedure.ensures)
    (shows_no _ (ne_eqb _ 0 c.if-procedure-eq0.false)
    (shows_mark _ (c.mark_at.ensures LINK) c.in-Some.is
    (shows_mark _ (c.mark_at-2.ensures LINK) c.in-Some-mark_at.is
    (shows_goes refl (record {
      row = omega (arith, c.in-Some.known_told-1-own.given);
      base = omega (arith, c.in-Some-mark_at.known_told-in-Some-mark_at-2-1-own.given);
      top = omega (arith, below, c.requires.0.top);
    })))))
