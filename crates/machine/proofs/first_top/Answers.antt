use native.Mathlib.Omega.{arith}
use Rattle.access.proofs.Bounds.{globals_low, frame_low, procedures_some}
use Rattle.semantics.specs.Running.{first_top}
use Rattle.machine.proofs.first_top.Goals as goal

pub frame_size-requires : goal.frame_size-requires
frame_size-requires c = procedures_some c.args.loaded.now.planned

pub overflow_add-result : goal.overflow_add-result
overflow_add-result c =
    let planned = c.args.loaded.now.planned in
    let g = globals_low planned in
    let f = frame_low planned 0 (procedures_some planned) in
    rw (c.global_room.ensures, c.frame_size.ensures) (record { fits = omega arith })

pub returns : goal.returns
unfolding first_top
returns c = rw (c.global_room.ensures, c.frame_size.ensures)
