use mathlib.Core.Path.{◌≡◌}
use mathlib.Core.Bool.{true}
use Rattle.prelude.specs.Choice.{choose}
use Rattle.prelude.proofs.Choice.{also_left, also_right, also_yes}
use Rattle.sets.specs.Sets.{is_element, range_of}
use Rattle.values.proofs.Numbers.{plain32}
use Rattle.sets.proofs.Results.{element_no, element_yes, element_cast, element_below}
use Rattle.sets.proofs.range.Goals as goal
use Rattle.sets.proofs.range.Goals.{Then-is_element-2}
use Rattle.sets.proofs.range.Goals.{else-is_element-via-then-is_element+else-is_element-2}
use Rattle.sets.proofs.range.Goals.{else-is_element-via-else-is_element}

module _ (c : Then-is_element-2) where
  low : is_element c.args.x ≡ true
  low = element_yes c.ranges.x c.is_element.ensures c.if-is_element.true

  high : is_element c.args.y ≡ true
  high = element_yes c.ranges.y c.is_element-then-is_element.ensures c.if-is_element-2.true

pub overflow_cast-x : goal.overflow_cast-x
overflow_cast-x c = element_cast c.ranges.x c.is_element.ensures c.if-is_element.true

pub overflow_cast-y : goal.overflow_cast-y
overflow_cast-y c = element_cast c.ranges.y c.is_element-then-is_element.ensures c.if-is_element-2.true

pub elements-requires : goal.elements-requires
elements-requires c =
    rw (plain32 _ c.ranges.x, plain32 _ c.ranges.y) (element_below _ (low c), element_below _ (high c))

pub returns-then-is_element-2 : goal.returns-then-is_element-2
unfolding range_of choose
returns-then-is_element-2 c =
    let b = (goal.at.returns-then-is_element-2 c).Then-is_element-2 in
    rw (c.elements.ensures, plain32 _ c.ranges.x, plain32 _ c.ranges.y, also_yes (low b) (high b))

pub returns-else-is_element : goal.returns-else-is_element
unfolding range_of choose
returns-else-is_element c =
    elim c.else-is_element.branch [
      | else-is_element-via-then-is_element+else-is_element-2 w ↦
          let no = element_no c.ranges.y w.is_element-then-is_element.ensures w.if-is_element-2.false in
          rw (also_right (is_element c.args.x) no)
      | else-is_element-via-else-is_element w ↦
          let no = element_no c.ranges.x c.is_element.ensures w.if-is_element.false in
          rw (also_left (is_element c.args.y) no)
    ]
