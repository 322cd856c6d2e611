use Rattle.typing.specs.Typing.{variable_node}
use Rattle.typing.proofs.variable_node.Goals as goal

pub returns : goal.returns
unfolding variable_node
returns c = rw (← c.row_at.ensures)
