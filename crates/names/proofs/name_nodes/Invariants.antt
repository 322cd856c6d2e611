use Rattle.image.specs.Rows.{row_at}
use Rattle.names.specs.Names.{names_of_node, names_from}
use Rattle.names.specs.Often.{Named}
use Rattle.names.proofs.name_nodes.Given as goal

abbrev pub invariant-loop-i : goal.invariant-loop-i
invariant-loop-i l = Named (names_from (λ j. names_of_node (row_at l.n j)) 0 l.i) l.initial.often l.often
