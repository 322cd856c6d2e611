use lib.ListN.{get_or-eq_default}
use Rattle.statements.proofs.run_at.Goals as goal

pub returns : goal.returns
returns c = search get_or-eq_default
