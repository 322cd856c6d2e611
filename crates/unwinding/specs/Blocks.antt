-- A table of the store's blocks, from which the frame of an address is a few links away.
use Rattle.std.specs.Prelude.{ℕ, ◌+◌, ◌*◌, ◌<◌, ◌≡◌, List, [], ◌∷◌, leb, get_or}
use Rattle.prelude.specs.Choice.{choose}
use Rattle.semantics.specs.Layout.{Program}
use Rattle.asking.specs.Asking.{room_of}

-- how many blocks of how many cells, and where no frame begins: the constants of the code once more
abbrev pub BLOCKS : ℕ
BLOCKS = 1024

abbrev pub BLOCK : ℕ
BLOCK = 64

abbrev pub NOWHERE : ℕ
NOWHERE = 65535

-- where block j ends
unfoldable pub block_end : ℕ → ℕ
block_end j = j * BLOCK + BLOCK

-- where the oldest of these frames begins that begins at an address or behind it; `none` where none does
unfoldable pub oldest_from : Program → ℕ → List ℕ → ℕ → ℕ
oldest_from g none [] at = none
oldest_from g none (q ∷ qs) at = choose (leb at (room_of g qs)) (oldest_from g (room_of g qs) qs at) none

-- of each block the oldest frame that begins at the block's end or behind it
pub record Blocks (g : Program) (qs blocks : List ℕ) : Type 0 where
  pub each : (j : ℕ) → j < BLOCKS → get_or blocks j 0 ≡ oldest_from g NOWHERE qs (block_end j)
