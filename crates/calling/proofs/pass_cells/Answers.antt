use mathlib.Core.Path.{◌≡◌, sym, ◌∙◌}
use native.Mathlib.Omega.{arith}
use borrow.Author.Rules.{rules}
use Rattle.shapes.specs.Sizes.{size_of}
use Rattle.semantics.specs.Running.{program_of}
use Rattle.access.proofs.Bounds.{size_low}
use Rattle.finding.proofs.Low.{find_within}
use Rattle.finding.proofs.Seeing.{seen}
use Rattle.calling.proofs.Arguments.{place_lost, place_beyond, place_copied}
use Rattle.calling.proofs.pass_cells.Goals as goal

-- `calling::pass_cells` meets its contract: the cells, copied, or what the operand's loss comes to.
pub returns-in_default : goal.returns-in_default
returns-in_default c = λ output.
    rw (c.lost.ensures, ← (seen c.new.result c.new.ensures c.args.k c.find-found.ensures))
    (place_lost _ _ _ c.in_default.not-Ok)

pub size_of-size-requires : goal.size_of-size-requires
size_of-size-requires c = c.requires.1

pub overflow_add-object : goal.overflow_add-object
overflow_add-object c =
    let found = sym (seen c.new.result c.new.ensures c.args.k c.find-found.ensures) ∙ c.in-Ok.is in
    let within = find_within c.args.loaded.now.planned c.requires.0.base _ _ _ found in
    omega (arith, c.size_of-size.ensures, within.low, size_low c.args.loaded.now.planned c.args.r c.requires.1)

pub returns-then-s-object : goal.returns-then-s-object
returns-then-s-object c =
    let found = sym (seen c.new.result c.new.ensures c.args.k c.find-found.ensures) ∙ c.in-Ok.is in
    λ output.
    place_beyond _ c.args.place _ found (omega (arith, c.size_of-size.ensures, c.if-s-object.true))

pub copy_above-requires : goal.copy_above-requires
copy_above-requires c = search rules

pub returns : goal.returns
returns c =
    let found = sym (seen c.new.result c.new.ensures c.args.k c.find-found.ensures) ∙ c.in-Ok.is in
    let size : c.size_of-size.result
    ≡ size_of (program_of c.args.loaded.now.image.now).types (program_of c.args.loaded.now.image.now).fields c.args.r =
    omega (arith, c.size_of-size.ensures) in
    λ output.
    place_copied _ c.args.place _ found (rw size at c.if-s-object.false)
    (rw size at c.copy_above.ensures)
