use native.Mathlib.Omega.{arith}
use Rattle.access.proofs.Bounds.{frame_low}
use Rattle.calling.proofs.new_top.Goals as goal

pub overflow_add-result : goal.overflow_add-result
overflow_add-result c =
    record { fits = omega (arith, c.frame_size.ensures, frame_low c.args.loaded.now.planned c.args.q c.requires.1, c.requires.0) }
