-- What the passes over a state read and ask.
use Rattle.std.specs.Prelude.{ℕ, List, Bool, ℤ}
use Rattle.prelude.specs.Choice.{◌also◌}
use Rattle.semantics.specs.Layout.{Program}
use Rattle.asking.specs.State.{ends_at}
use Rattle.asking.specs.Passes.{linked, values_pass, references_pass}
use Rattle.semantics.specs.Running.{program_of}
use Rattle.access.specs.Ready.{Planned}
use Rattle.contents.specs.Reading.{Readable}

-- an accepted image, its plan, the kinds of its types' cells, and a store of at most 65,536 cells
pub record ReadableImage (image plan even : List ℕ) (store : List ℤ) : Type 0 where
  pub planned : Planned image plan
  pub readable : Readable (program_of image).types (program_of image).fields plan even store

-- the three passes over these frames
unfoldable pub frames_sound : Program → List ℕ → List ℤ → ℕ → ℕ → Bool
frames_sound g qs store base top =
    (ends_at g qs base top also linked g qs store) also values_pass g qs store also references_pass g qs store
