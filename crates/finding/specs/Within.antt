-- What adding an offset to an object asks.
use Rattle.std.specs.Prelude.{ℕ, ◌≤◌, ◌<◌, List}
use Rattle.image.specs.Rows.{rows_of}
use Rattle.semantics.specs.declared.Place.{Place}
use Rattle.semantics.specs.Running.{program_of}

-- an object of a type that there is, at an address small enough to add an offset
pub record Within (image : List ℕ) (place : Place) : Type 0 where
  pub low : place.address ≤ 16777216
  pub typed : place.declared < rows_of (program_of image).types
