use mathlib.Core.Logic.{inl, inr}
use mathlib.Core.Path.{sym, ◌∙◌}
use borrow.Author.Tests.{lt-leb}
use Rattle.prelude.proofs.Choice.{clash}
use Rattle.semantics.specs.Running.{program_of}
use Rattle.semantics.proofs.Demand3.{program_accepted}
use Rattle.access.proofs.Bounds.{types_few}
use Rattle.referents.proofs.Frames.{older_existing}
use Rattle.referents.proofs.Referring.{no_type, not_extended, no_address, too_high, refers, extends_there}
use Rattle.referents.proofs.State.reference.Goals as goal
use Rattle.referents.proofs.State.reference.Goals.{then-extends, else-extends}

pub returns-in_default : goal.returns-in_default
returns-in_default c = let g = program_of c.args.self.now.loaded.image.now in
    λ p qs older framed oldest start.
    no_address g older _ _ _ _ c.requires.3 c.requires.0.cells
    (program_accepted _ c.args.self.now.loaded.planned.checked.accepted)
    (older_existing g framed.walked oldest) start
    c.mark_at.ensures c.in_default.is c.requires.2

pub returns-in_default-mark_at : goal.returns-in_default-mark_at
returns-in_default-mark_at c = let g = program_of c.args.self.now.loaded.image.now in
    λ p qs older framed oldest start.
    no_type g older _ _ _ _ c.requires.3 c.requires.0.cells
    c.mark_at-2.ensures c.in_default-mark_at.is (types_few c.args.self.now.loaded.planned) c.requires.1

pub returns-else-at-base : goal.returns-else-at-base
returns-else-at-base c =
    let g = program_of c.args.self.now.loaded.image.now in
    λ p qs older framed oldest start.
    elim c.if-extends.branch [
      | then-extends w ↦ elim c.if-at-base.either [
        | inl (extends, high) ↦ w.t-14-is ∙ lt-leb _ _ high
            ∙ too_high g older _ _ _ _ c.requires.3 c.requires.0.cells
            (program_accepted _ c.args.self.now.loaded.planned.checked.accepted)
            (older_existing g framed.walked oldest) start
            c.mark_at.ensures c.in-Some.is high
        | inr none ↦ clash (sym w.if-extends.true ∙ none)
      ]
      | else-extends w ↦ w.t-14-is ∙ w.if-extends.false
          ∙ not_extended g older _ _ _ _ c.requires.3 c.requires.0.cells
          c.mark_at-2.ensures c.in-Some-mark_at.is c.extends.ensures w.if-extends.false
    ]

pub object_at-requires : goal.object_at-requires
object_at-requires c =
    let g = program_of c.args.self.now.loaded.image.now in
    let (extends, low) = c.if-at-base.true in
    (c.requires.0, extends_there g.types _ _ c.extends.ensures extends c.requires.1, low, c.requires.2)

pub returns-then-at-base : goal.returns-then-at-base
returns-then-at-base c =
    let g = program_of c.args.self.now.loaded.image.now in
    let (extends, low) = c.if-at-base.true in
    λ p qs older framed oldest start.
    refers g older _ _ _ _ c.requires.3 c.requires.0.cells
    (program_accepted _ c.args.self.now.loaded.planned.checked.accepted)
    (older_existing g framed.walked oldest) start
    c.mark_at.ensures c.in-Some.is
    c.mark_at-2.ensures c.in-Some-mark_at.is
    c.extends.ensures extends low
    oldest (c.object_at.ensures p qs older framed oldest start)
