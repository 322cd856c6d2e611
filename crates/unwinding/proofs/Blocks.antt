-- Laws of blocks: which of them an address, or a frame that begins there, is of, and which frame is above.
use mathlib.Core.Path.{◌≡◌, refl}
use mathlib.Core.List.{List, [], ◌∷◌}
use mathlib.Core.Logic.{◌⊎◌, inl, inr, ⊎_elim}
use Prim.Native.Nat.{ℕ, ◌+◌, ◌-◌, ◌/◌, ◌≤◌, ◌<◌}
use native.Mathlib.Omega.{arith}
use native.Mathlib.Nat.{mul-div-le, lt-div-mul-add, div-lt_iff_lt-mul}
use native.Mathlib.Decide.{dec_le}
use borrow.Author.Tests.{le-leb, lt-leb}
use lib.ListN.{get_or}
use Rattle.prelude.proofs.Choice.{choose_yes, choose_no}
use Rattle.semantics.specs.Layout.{Program}
use Rattle.asking.specs.Asking.{room_of}
use Rattle.unwinding.specs.Blocks.{BLOCKS, BLOCK, NOWHERE, block_end, oldest_from, Blocks}
use Rattle.unwinding.specs.Going.{Oldest, Oldest.all, Oldest.newer}
use Rattle.unwinding.proofs.Walking.{room_more}

-- ---- blocks of an address

-- an address's block is one of the table's
block_low : (at : ℕ) → at ≤ 65536 → (at - 1) / BLOCK < BLOCKS
block_low at most = (div-lt_iff_lt-mul {k = BLOCK} {x = at - 1} {y = BLOCKS} (omega arith)).1 (omega arith)

-- and ends no lower
pub block_behind : (at : ℕ) → at ≤ block_end ((at - 1) / BLOCK)
unfolding block_end
block_behind at = let h = lt-div-mul-add {a = at - 1} {b = BLOCK} (omega arith) in omega arith

-- no block of an address reaches past the last
block_most : (at : ℕ) → at ≤ 65536 → block_end ((at - 1) / BLOCK) ≤ 65536
unfolding block_end
block_most at most = let h = block_low at most in omega arith

-- a frame that begins at b begins below the end of its block and of all higher ones
pub block_begun : (b j : ℕ) → b / BLOCK ≤ j → b < block_end j
unfolding block_end
block_begun b j low = let h = lt-div-mul-add {a = b} {b = BLOCK} (omega arith) in omega arith

-- and of no lower one
pub block_before : (b j : ℕ) → j < b / BLOCK → block_end j ≤ b
unfolding block_end
block_before b j high = let h = mul-div-le b BLOCK in omega arith

-- a frame that ends in block `high` or lower begins so
pub block_within : (b high : ℕ) → b < block_end high → b / BLOCK ≤ high
unfolding block_end
block_within b high low =
    let h = (div-lt_iff_lt-mul {k = BLOCK} {x = b} {y = high + 1} (omega arith)).1 (omega arith) in
    omega arith

-- every address is below the end of the last
pub block_all : (e : ℕ) → e ≤ 65536 → e < block_end BLOCKS
unfolding block_end
block_all e most = omega arith

-- ---- frames above

-- of these frames one that begins at b, at an address or behind it
pub record Above (g : Program) (qs : List ℕ) (at b : ℕ) : Type 0 where
  pub procedure : ℕ
  pub older : List ℕ
  pub oldest : Oldest (procedure ∷ older) qs
  pub base : b ≡ room_of g older
  pub high : at ≤ b

module _ (g : Program) where
  -- the newest of these frames begins below the address
  pub from_none : (none q : ℕ) (qs : List ℕ) (at : ℕ) → room_of g qs < at → oldest_from g none (q ∷ qs) at ≡ none
  unfolding oldest_from
  from_none none q qs at h = choose_no _ _ _ (lt-leb _ _ h)

  -- or it does not
  pub from_older : (none q : ℕ) (qs : List ℕ) (at : ℕ) → at ≤ room_of g qs
      → oldest_from g none (q ∷ qs) at ≡ oldest_from g (room_of g qs) qs at
  unfolding oldest_from
  from_older none q qs at h = choose_yes _ _ _ (le-leb _ _ h)

  -- none of these frames begins higher than the newest
  older_room : {p : ℕ} {older : List ℕ} {q : ℕ} {qs : List ℕ} → Oldest (p ∷ older) (q ∷ qs) → room_of g older ≤ room_of g qs
  older_room all = omega arith
  older_room (newer {qs = []} oldest) = elim oldest [ ]
  older_room {qs = c ∷ qs} (newer oldest) = omega (arith, older_room oldest, room_more g c qs)

  -- none of these frames begins at an address or behind it
  abbrev Low : List ℕ → ℕ → Type 0
  Low qs at = (p : ℕ) (older : List ℕ) → Oldest (p ∷ older) qs → room_of g older < at

  -- the newest does, and so the oldest that does is this one or one of the others
  above_newer : (q : ℕ) {qs : List ℕ} {at b : ℕ} → at ≤ room_of g qs → Above g qs at b ⊎ ((b ≡ room_of g qs) × Low qs at)
      → Above g (q ∷ qs) at b
  above_newer q high (inl a) = record {
    procedure = a.procedure;
    older = a.older;
    oldest = newer a.oldest;
    base = a.base;
    high = a.high;
  }
  above_newer q {qs} high (inr (is, low)) =
      record { procedure = q; older = qs; oldest = all; base = is; high = omega arith }

  -- one does, or none
  above_or : (none : ℕ) (qs : List ℕ) (at : ℕ)
      → Above g qs at (oldest_from g none qs at) ⊎ ((oldest_from g none qs at ≡ none) × Low qs at)
  unfolding oldest_from
  above_or none [] at = inr (refl, λ p older. elim [ ])
  above_or none (q ∷ qs) at = go (dec_le at (room_of g qs)) (above_or (room_of g qs) qs at)
    where
      go : Dec (at ≤ room_of g qs)
          → Above g qs at (oldest_from g (room_of g qs) qs at)
          ⊎ ((oldest_from g (room_of g qs) qs at ≡ room_of g qs) × Low qs at)
          → Above g (q ∷ qs) at (oldest_from g none (q ∷ qs) at)
          ⊎ ((oldest_from g none (q ∷ qs) at ≡ none) × Low (q ∷ qs) at)
      go (yes h) rest = inl (rw (from_older none q qs at h) (above_newer q h rest))
      go (no h) rest = inr (from_none none q qs at (omega arith), λ p older oldest. omega (arith, older_room oldest))

  -- what the table has for an address is such a frame, where it is less than where a frame begins
  pub table_above : {qs older blocks : List ℕ} {p at : ℕ} → Blocks g qs blocks → at ≤ 65536 → Oldest (p ∷ older) qs
      → let block = (at - 1) / BLOCK in
      get_or blocks block 0 < room_of g older → Above g qs (block_end block) (get_or blocks block 0)
  table_above {qs} {older} {blocks} {p} {at} table most oldest less =
      let block = (at - 1) / BLOCK in
      let is = table.each block (block_low at most) in
      let end = block_most at most in
      rw is
      (⊎_elim (λ a. a) (λ none. absurd (omega (arith, none.0, none.1 p older oldest)))
      (above_or NOWHERE qs (block_end block)))
