use native.Mathlib.Omega.{arith}
use Rattle.semantics.specs.Running.{program_of}
use Rattle.calling.proofs.Arguments.{stands_kept}
use Rattle.calling.proofs.Calls.{first_low, parameter_roomy, shows_beyond, call_ended, call_entered}
use Rattle.calling.proofs.call.Goals as goal

-- `calling::call` meets its contract: the store check, the arguments, the frame.

pub returns-then-store-end : goal.returns-then-store-end
returns-then-store-end c = λ output.
    shows_beyond (program_of c.args.loaded.now.image.now) c.args.statement c.args.s c.args.store.now output
    (rw (← c.new_top-end.ensures) c.if-store-end.true)

pub pass_all-passing-requires : goal.pass_all-passing-requires
pass_all-passing-requires c =
    let row = c.procedure_at-procedure in
    let begin = c.first_variable-first in (
      c.requires.0,
      omega arith,
      first_low c.args.loaded.now.planned _ c.requires.1 row.result row.ensures _ begin.ensures,
      omega arith,
      parameter_roomy c.args.loaded.now.planned _ c.requires.1 _ row.ensures _ begin.ensures _ _ (rw (← c.new_top-end.ensures) c.if-store-end.false),
    )

pub returns-in_default : goal.returns-in_default
returns-in_default c = λ output.
    let row = c.procedure_at-procedure.ensures in
    let ended = call_ended (program_of c.args.loaded.now.image.now) c.args.statement c.args.s
    c.args.store.now output (rw (← c.new_top-end.ensures) c.if-store-end.false) _ row _ c.first_variable-first.ensures c.in_default.not-Ok
    (c.pass_all-passing.ensures output) in
    rw c.ended_by.ensures ended

pub enter-requires : goal.enter-requires
enter-requires c =
    let many = c.pass_all-passing.auto.store in
    (stands_kept c.requires.0 many, c.requires.1, c.requires.2, rw many (rw (← c.new_top-end.ensures) c.if-store-end.false), c.requires.3)

pub returns : goal.returns
returns c = λ output.
    let row = c.procedure_at-procedure.ensures in
    let all = c.pass_all-passing in
    let passes = rw c.in-Ok.is at (all.ensures output) in
    call_entered (program_of c.args.loaded.now.image.now) c.args.statement c.args.s c.args.store.now
    output (rw (← c.new_top-end.ensures) c.if-store-end.false) _ row _ c.first_variable-first.ensures passes (c.enter.ensures output)
