use Rattle.sets.specs.Sets.{is_element}
use borrow.Author.Rules.{rules}
use Rattle.sets.proofs.is_element.Goals as goal

-- `sets::is_element` meets its contract.
pub returns : goal.returns
unfolding is_element
returns c = search rules
