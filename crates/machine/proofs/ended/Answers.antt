use borrow.Author.Rules.{rules}
use Rattle.values.proofs.Numbers.{plain32}
use Rattle.machine.specs.Stopping.{ended_with}
use Rattle.machine.proofs.ended.Goals as goal

pub returns : goal.returns
unfolding ended_with
returns c = rw (plain32 c.args.halt (search rules))
