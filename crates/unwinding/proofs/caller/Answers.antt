use Rattle.unwinding.specs.Links.{caller_of}
use Rattle.unwinding.proofs.caller.Goals as goal

pub returns : goal.returns
unfolding caller_of
returns c = rw (c.link.ensures, c.link-2.ensures)
