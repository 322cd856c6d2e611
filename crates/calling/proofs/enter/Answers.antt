use mathlib.Core.Path.{ap}
use Prim.Native.Nat.{◌≤◌}
use borrow.Author.Rules.{rules}
use Rattle.image.specs.declared.Row.{Row}
use Rattle.semantics.specs.Running.{program_of}
use Rattle.calling.proofs.Entering.{frame_within, shows_entered}
use Rattle.calling.proofs.enter.Goals as goal

pub write_frame-requires : goal.write_frame-requires
write_frame-requires c =
    rw (c.frame_size-size.ensures, c.locals_place-past.ensures)
    (frame_within (program_of c.args.loaded.now.image.now) c.args.q c.args.s c.args.store.now
    c.requires.3 c.requires.0.few)

pub returns : goal.returns
returns c = λ output.
    let size = c.frame_size-size.ensures in
    let past = c.locals_place-past.ensures in
    let caller = c.procedure_of-caller.ensures in
    let row = c.procedure_at-procedure in
    let low : row.result.a ≤ 65536 = search rules in
    let wrote = rw (past, size, caller) at c.write_frame.ensures in
    rw size (shows_entered (program_of c.args.loaded.now.image.now) c.args.q c.args.s c.args.store.now
    c.requires.3 c.requires.0.few _ wrote _ (ap (λ (r : Row). r.a) row.ensures) low output)
