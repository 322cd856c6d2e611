use Rattle.semantics.specs.Running.{program_of}
use Rattle.unwinding.proofs.Next.{Down}
use Rattle.unwinding.proofs.fill_next.Given as goal

-- the places from i on are filled
abbrev pub invariant-loop-i : goal.invariant-loop-i
invariant-loop-i l = Down (program_of l.loaded.image.now) l.fn.next l.next l.first l.i
