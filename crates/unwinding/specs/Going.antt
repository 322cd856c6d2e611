-- Going from frame to frame.
use Rattle.std.specs.Prelude.{ℕ, ◌*◌, ◌+◌, ◌≤◌, ◌<◌, ◌≡◌, List, ◌∷◌, ℤ}
use Rattle.semantics.specs.Layout.{Program}
use Rattle.asking.specs.Asking.{object_at}
use Rattle.asking.specs.Passes.{Walked, newest_below}
use Rattle.unwinding.specs.declared.Spot.{Spot}

-- a loop over the frames stands at that of procedure q, from b to e; `Told` is what it knows of this frame and all
-- older ones
pub record Going (g : Program) (store : List ℤ) (Told : List ℕ → Type 0) (q b e : ℕ) : Type 0 where
  pub older : List ℕ
  pub walked : Walked g (q ∷ older) store b e
  pub told : Told (q ∷ older)

-- of frames `all`, which end at e, the newest that begins below an address, with its older ones, which hold the objects
-- that begin no higher
pub record Newest (g : Program) (all : List ℕ) (store : List ℤ) (e at : ℕ) (s : Spot) : Type 0 where
  pub older : List ℕ
  pub end : ℕ
  pub within : end ≤ e
  pub walked : Walked g (s.procedure ∷ older) store s.base end
  pub below : s.base < at
  pub packed : newest_below g all at ≡ s.procedure * 65536 + s.base
  pub object : (w a : ℕ) → a ≤ at → object_at g w all a ≡ object_at g w (s.procedure ∷ older) a

-- some frames are the oldest of others
pub data Oldest (older : List ℕ) : List ℕ → Type 0 where
  all : Oldest older older
  newer : {q : ℕ} {qs : List ℕ} → Oldest older qs → Oldest older (q ∷ qs)
