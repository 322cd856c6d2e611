use borrow.Author.Tests.{ne_eqb}
use Rattle.semantics.specs.Running.{program_of}
use Rattle.access.proofs.Bounds.{variable_typed}
use Rattle.referents.proofs.Scanning.{variable_low}
use Rattle.referents.proofs.Parameters.{test_other, test_room, test_reference}
use Rattle.referents.proofs.State.parameter.Goals as goal

pub returns-then-row-ne3 : goal.returns-then-row-ne3
returns-then-row-ne3 c = let g = program_of c.args.self.now.loaded.image.now in
    λ p qs older framed oldest start. rw (ne_eqb _ _ c.if-row-ne3.true) (test_other g _ c.variable_at-row.ensures older _ c.if-row-ne3.true)

pub reference-requires : goal.reference-requires
reference-requires c = let g = program_of c.args.self.now.loaded.image.now in
    let row = c.variable_at-row.ensures in (
      c.requires.0,
      variable_low _ _ row (variable_typed c.args.self.now.loaded.planned _ c.requires.1),
      c.requires.2,
      test_room g _ row c.if-row-ne3.false c.args.base c.place_of.ensures c.requires.3,
    )

pub returns-else-row-ne3 : goal.returns-else-row-ne3
returns-else-row-ne3 c = let g = program_of c.args.self.now.loaded.image.now in
    λ p qs older framed oldest start.
    test_reference g _ c.variable_at-row.ensures c.if-row-ne3.false older
    c.args.self.now.store.now c.args.base c.place_of.ensures
    (c.reference.ensures p qs older framed oldest start)
