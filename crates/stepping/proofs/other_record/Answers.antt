use mathlib.Core.Path.{sym, ◌∙◌}
use borrow.Author.Tests.{eq-eqb, ne_eqb}
use Rattle.prelude.proofs.Choice.{also_pass, also_left}
use Rattle.semantics.specs.Stepping.{other_record}
use Rattle.stepping.proofs.other_record.Goals as goal

pub returns-then-type_at-eq4 : goal.returns-then-type_at-eq4
unfolding other_record
returns-then-type_at-eq4 c = rw (← c.type_at.ensures) (sym (also_pass _ (eq-eqb _ 4 c.if-type_at-eq4.true)))

pub returns-else-type_at-eq4 : goal.returns-else-type_at-eq4
unfolding other_record
returns-else-type_at-eq4 c =
    let other = ne_eqb _ 4 c.if-type_at-eq4.false in
    other ∙ rw (← c.type_at.ensures) (sym (also_left _ other))
