-- What is lent to the search is that of the image.
use mathlib.Core.Path.{◌≡◌}
use mathlib.Core.List.{List}
use Prim.Native.Nat.{ℕ, ◌≤◌}
use native.Mathlib.Omega.{arith}
use Rattle.prelude.specs.Choice.{choose}
use Rattle.image.specs.Rows.{rows_of}
use Rattle.semantics.specs.Running.{program_of}
use Rattle.semantics.proofs.Demand3.{program_accepted}
use Rattle.objects.specs.Looking.{Typed}
use Rattle.objects.specs.Tables.{AllEdges}
use Rattle.access.specs.Ready.{table_of, Planned}
use Rattle.access.proofs.Bounds.{types_few}
use Rattle.referents.specs.Reading.{Lent}

-- a plan holds the sizes of accepted types
pub typed_plan : {image plan : List ℕ} → Planned image plan
    → Typed (program_of image).types (program_of image).fields plan
typed_plan {image} p =
    let few = types_few p in
    record {
      few = few;
      kept = (program_accepted image p.checked.accepted).questions.types;
      room = omega (arith, p.checked.cells);
      size = p.checked.size;
    }

-- with the edges of an accepted image's types
pub lent_by : {image plan starts ends : List ℕ} → Planned image plan
    → AllEdges (program_of image).types (program_of image).fields plan starts ends → Lent image plan starts ends
lent_by planned edges = record { planned = planned; typed = typed_plan planned; edges = edges }

module _ (image : List ℕ) {v : List ℕ} (variables : v ≡ table_of (program_of image) 2) where
  pub variables_are : v ≡ (program_of image).variables
  unfolding table_of choose
  variables_are = variables

  pub variables_there : {n : ℕ} → n ≤ rows_of (program_of image).variables → n ≤ rows_of v
  variables_there h = rw variables_are h
