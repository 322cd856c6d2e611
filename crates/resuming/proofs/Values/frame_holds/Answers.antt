use mathlib.Core.Path.{◌∙◌, refl}
use native.Mathlib.Omega.{arith}
use Rattle.places.specs.Places.{frame_size}
use Rattle.access.proofs.Bounds.{claims}
use Rattle.resuming.proofs.Values.frame_holds.Goals as goal

pub variables_hold-requires : goal.variables_hold-requires
unfolding frame_size
variables_hold-requires c =
    rw (c.first_variable-first.ensures, c.claimed_by-own.ensures)
    (claims c.args.self.now.loaded.planned _ c.requires.0, omega (arith, c.requires.1))

pub returns : goal.returns
returns c =
    c.variables_hold.ensures ∙ rw (c.first_variable-first.ensures, c.claimed_by-own.ensures) refl
