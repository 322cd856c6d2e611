use mathlib.Core.Path.{◌≡◌}
use mathlib.Core.Bool.{true}
use Rattle.prelude.specs.Bits.{bit_of}
use Rattle.prelude.specs.Choice.{choose}
use Rattle.sets.specs.Sets.{is_element, contains_of}
use Rattle.values.proofs.Numbers.{plain32}
use Rattle.sets.proofs.Results.{element_no, element_yes, element_cast, element_below}
use Rattle.sets.proofs.contains.Goals as goal
use Rattle.sets.proofs.contains.Goals.{Else-not-is_element}

pub returns-then-not-is_element : goal.returns-then-not-is_element
unfolding contains_of choose
returns-then-not-is_element c = rw (element_no c.ranges.x c.is_element.ensures c.if-not-is_element.true)

element : (c : Else-not-is_element) → is_element c.args.x ≡ true
element c = element_yes c.ranges.x c.is_element.ensures c.if-not-is_element.false

pub overflow_cast-member : goal.overflow_cast-member
overflow_cast-member c = element_cast c.ranges.x c.is_element.ensures c.if-not-is_element.false

pub overflow_shr-member : goal.overflow_shr-member
overflow_shr-member c = rw (plain32 _ c.ranges.x) (element_below _ (element (goal.at.overflow_shr-member c).Else-not-is_element))

pub returns : goal.returns
unfolding contains_of bit_of choose
returns c = rw (plain32 _ c.ranges.x, element (goal.at.returns c).Else-not-is_element)
