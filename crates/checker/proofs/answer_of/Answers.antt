use Rattle.checker.proofs.Chain.{asked_kept, asked_fault}
use mathlib.Core.Path.{sym}
use Rattle.checker.proofs.answer_of.Goals as goal

pub returns-in-Ok : goal.returns-in-Ok
returns-in-Ok c = sym (asked_kept _ _ _ c.in-Ok.is)

pub returns-in-Err : goal.returns-in-Err
returns-in-Err c = sym (asked_fault _ _ _ c.in-Err.is)
