-- Links as the code reads them.
use Rattle.std.specs.Prelude.{ℕ, ◌+◌, ◌/◌, ◌%◌, Bool, List, [], ltb, eqb, ℤ, Some, None}
use Rattle.prelude.specs.Choice.{◌also◌}
use Rattle.image.specs.Rows.{rows_of}
use Rattle.places.specs.Places.{frame_size}
use Rattle.semantics.specs.Memory.{LINK, bare, mark_at, Mark}
use Rattle.semantics.specs.Layout.{Program}
use Rattle.asking.specs.Asking.{room_of}
use Rattle.unwinding.specs.declared.Spot.{Spot}

-- a link's number; where there is none, one that no row has and at which no frame can begin
unfoldable pub mark_number : Mark → ℕ
mark_number (Some n) = n
mark_number None = 65535

-- the number of the link in the cell at a, below top
unfoldable pub link_at : ℕ → List ℤ → ℕ → ℕ
link_at top store a = mark_number (mark_at bare top store LINK a)

-- by the links of a frame that begins at base: its caller's
unfoldable pub caller_of : ℕ → List ℤ → ℕ → Spot
caller_of top store base = record { procedure = link_at top store base; base = link_at top store (base + 2) }

-- a frame as `newest_below` packs it
unfoldable pub spot_of : ℕ → Spot
spot_of n = record { procedure = n / 65536; base = n % 65536 }

module _ (g : Program) where
  -- there is a procedure q, and its frame at b ends at e
  unfoldable pub size_kept : ℕ → ℕ → ℕ → Bool
  size_kept q b e =
      ltb q (rows_of g.procedures)
      also eqb e (b + frame_size g.types g.fields g.variables g.procedures q)

  -- a frame at b is the oldest, by where it begins and by its links
  unfoldable pub oldest_kept : ℕ → List ℤ → ℕ → Bool
  oldest_kept top store b =
      eqb b (room_of g [])
      also eqb (link_at top store b) 0
      also eqb (link_at top store (b + 1)) 0
      also eqb (link_at top store (b + 2)) 0
