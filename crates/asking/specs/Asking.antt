-- Whether an object declared with a type begins at an address, by the procedures of the frames.
use Rattle.std.specs.Prelude.{ℕ, zero, suc, ◌+◌, ◌-◌, Bool, true, false, List, [], ◌∷◌, ltb, leb}
use Rattle.prelude.specs.Choice.{choose, ◌also◌}
use Rattle.image.specs.Rows.{row_at}
use Rattle.shapes.specs.Sizes.{size_of}
use Rattle.frames.specs.Variables.{globals_of}
use Rattle.frames.specs.Procedures.{first_variable, claimed_by}
use Rattle.places.specs.Places.{width_by, global_cells, frame_size}
use Rattle.semantics.specs.Layout.{Program}
use Rattle.objects.specs.Begins.{begins_at}

-- o cells into n variables from row k on, where `deeper` says what begins in each: the two cells of a VAR parameter are
-- no object
unfoldable pub among_variables : (ℕ → ℕ → Bool) → (ℕ → ℕ) → List ℕ → ℕ → ℕ → ℕ → Bool
among_variables deeper size v k zero o = false
among_variables deeper size v k (suc n) o =
    choose (leb (row_at v k).kind 2 also deeper (row_at v k).a o) true
    (choose (leb (width_by size v k) o) (among_variables deeper size v (k + 1) n (o - width_by size v k)) false)

module _ (g : Program) where
  -- where the frames of these procedures end; the newest comes first
  unfoldable pub room_of : List ℕ → ℕ
  room_of [] = global_cells g.types g.fields g.variables
  room_of (q ∷ qs) = room_of qs + frame_size g.types g.fields g.variables g.procedures q

  -- o cells into n variables from row k on begins an object declared with type w
  abbrev pub object_in : ℕ → ℕ → ℕ → ℕ → Bool
  object_in w = among_variables (begins_at g.types g.fields w) (size_of g.types g.fields) g.variables

  -- at this address begins one: only the newest frame that begins below the address can have it, since a frame begins
  -- with its links, and since an object without cells may stand at a frame's end
  unfoldable pub object_at : ℕ → List ℕ → ℕ → Bool
  object_at w [] at = object_in w 0 (globals_of g.variables) at
  object_at w (q ∷ qs) at =
      choose (ltb (room_of qs) at)
      (choose (leb (room_of qs + 3) at)
      (object_in w (first_variable g.variables g.procedures q) (claimed_by (row_at g.procedures q))
      (at - (room_of qs + 3))) false)
      (object_at w qs at)
