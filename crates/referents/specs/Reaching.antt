-- Objects among variables, by the variables' places.
use Rattle.std.specs.Prelude.{ℕ, ◌+◌, ◌-◌, ◌≤◌, ◌<◌, ◌≡◌, Bool, List, leb, get_or}
use Rattle.prelude.specs.Choice.{◌also◌}
use Rattle.prelude.specs.Bits.{bit_of}
use Rattle.image.specs.Rows.{row_at, rows_of}
use Rattle.places.specs.Places.{room_from}
use Rattle.semantics.specs.Layout.{Program, place_of}
use Rattle.objects.specs.Begins.{begins_at}
use Rattle.asking.specs.Asking.{object_in}

-- n variables from row k on stand one behind the other, from place `lead` on
abbrev pub Placed : Program → ℕ → ℕ → ℕ → Type 0
Placed g k n lead =
    (j : ℕ) → j < n → place_of g (k + j) ≡ lead + room_from g.types g.fields g.variables k j

-- of n variables from row k on, x is the last that begins below an address; the first where none does
pub record Reached (g : Program) (k n at x : ℕ) : Type 0 where
  pub least : k ≤ x
  pub most : x ≤ k + n
  pub some : 0 < n → x < k + n
  pub before : k < x → place_of g x < at
  pub after : x + 1 < k + n → at ≤ place_of g (x + 1)

-- o cells into variable row k begins an object declared with type w
abbrev pub in_variable : Program → ℕ → ℕ → ℕ → Bool
in_variable g w k o =
    leb (row_at g.variables k).kind 2 also begins_at g.types g.fields w (row_at g.variables k).a o

-- at an address begins one in n variables from row k on, which stand from `lead` on
abbrev pub in_places : Program → ℕ → ℕ → ℕ → ℕ → ℕ → Bool
in_places g w k n lead at = leb lead at also object_in g w k n (at - lead)

-- and in those of them from row j on
abbrev pub left_places : Program → ℕ → ℕ → ℕ → ℕ → ℕ → ℕ → Bool
left_places g w k n lead at j =
    in_places g w j (k + n - j) (lead + room_from g.types g.fields g.variables k (j - k)) at

-- of n variables from row k on, which stand from `lead` on, rows j to e are the last, and none of these begins below an
-- address
pub record Ahead (g : Program) (k n lead at j e : ℕ) : Type 0 where
  pub least : k ≤ j
  pub last : e ≡ k + n
  pub placed : Placed g k n lead
  pub above : j < e → at ≤ place_of g j

-- words say of each type whether one declared with type w begins at its start
abbrev pub Firsts : Program → ℕ → List ℕ → Type 0
Firsts g w starts =
    (u : ℕ) → u < rows_of g.types → bit_of (get_or starts u 0) w ≡ begins_at g.types g.fields w u 0
