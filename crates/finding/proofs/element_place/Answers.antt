use mathlib.Core.Path.{◌≡◌, sym, ◌∙◌}
use mathlib.Core.Bool.{false}
use Prim.Native.Nat.{◌*◌, ◌≤◌, ◌<◌}
use native.Mathlib.Omega.{arith}
use borrow.Author.Tests.{lt-ltb}
use lib.IntN.{pos, nat_abs}
use lib.Signed.{lt_z}
use mir.Syntax.{w32}
use mir.Val.{to_z, of_z}
use Rattle.prelude.specs.Choice.{choose}
use Rattle.values.proofs.Numbers.{plain32, to_unsigned, pos_is}
use Rattle.semantics.specs.Finding.{element_place}
use Rattle.access.proofs.Bounds.{element_typed, element_low}
use Rattle.finding.proofs.Elements.{element_negative, element_past}
use Rattle.finding.proofs.element_place.Goals as goal
use Rattle.finding.proofs.element_place.Goals.{After-size_of-size}

-- `finding::element_place` meets its contract: an element's offset is low.
pub returns-then-index-lt0 : goal.returns-then-index-lt0
returns-then-index-lt0 c =
    sym (element_negative _ _ _ c.args.index (rw (plain32 _ c.ranges.index) at c.if-index-lt0.true))

pub overflow_cast-i : goal.overflow_cast-i
overflow_cast-i c =
    let e = plain32 _ c.ranges.index in
    rw e (to_unsigned c.args.index (rw e at c.if-index-lt0.false) c.ranges.index)

pub returns-then-array-i : goal.returns-then-array-i
returns-then-array-i c =
    let e = plain32 _ c.ranges.index in
    sym (element_past _ _ _ c.args.index (rw e at c.if-index-lt0.false) (rw e at c.if-array-i.true))

pub size_of-size-requires : goal.size_of-size-requires
size_of-size-requires c =
    let p = c.requires in
    rw p.1 (element_typed c.args.loaded.now.planned c.args.whole.declared (rw p.1 at p.2))

-- an element's offset is low
offset_low : (c : After-size_of-size) → nat_abs (to_z w32 (of_z w32 c.args.index)) * c.size_of-size.result ≤ 4096
offset_low c =
    let p = c.requires in
    rw (c.size_of-size.ensures, p.1)
    (element_low c.args.loaded.now.planned c.args.whole.declared _ (rw p.1 at p.2) (rw p.1 at c.if-array-i.false))

pub overflow_mul-i : goal.overflow_mul-i
overflow_mul-i c =
    let l = offset_low (goal.at.overflow_mul-i c).After-size_of-size in
    record { fits = omega arith }

pub overflow_add-whole : goal.overflow_add-whole
overflow_add-whole c =
    let l = offset_low (goal.at.overflow_add-whole c).After-size_of-size in
    record { fits = omega (arith, c.requires.0.low) }

pub returns : goal.returns
unfolding element_place choose
returns c =
    let e = plain32 _ c.ranges.index in
    let h : lt_z c.args.index (pos 0) ≡ false = rw e at c.if-index-lt0.false in
    let l : nat_abs c.args.index < c.args.array.b = rw e at c.if-array-i.false in
    c.plain.ensures ∙ rw (e, c.size_of-size.ensures, pos_is c.args.index h, lt-ltb _ _ l)
