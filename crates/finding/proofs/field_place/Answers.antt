use mathlib.Core.Path.{sym, ◌∙◌}
use native.Mathlib.Omega.{arith}
use Rattle.semantics.specs.Finding.{field_place}
use Rattle.access.proofs.Bounds.{field_low}
use Rattle.finding.proofs.field_place.Goals as goal

pub returns-in_default : goal.returns-in_default
unfolding field_place
returns-in_default c = rw (← c.field.ensures, c.in_default.is)

pub overflow_add-whole : goal.overflow_add-whole
overflow_add-whole c =
    let answer = sym c.field.ensures ∙ c.in-Some.is in
    record { fits = omega (arith, c.requires.0.low, (field_low c.args.loaded.now.planned _ _ _ _ answer).0) }

pub returns : goal.returns
unfolding field_place
returns c =
    c.plain.ensures ∙ rw (← c.field.ensures, c.in-Some.is)
