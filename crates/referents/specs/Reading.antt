-- What the functions read.
use Rattle.std.specs.Prelude.{ℕ, suc, ◌≤◌, ◌≡◌, List, ◌∷◌, ℤ, length}
use Rattle.semantics.specs.Layout.{Program}
use Rattle.semantics.specs.Running.{program_of}
use Rattle.objects.specs.Looking.{Typed}
use Rattle.objects.specs.Tables.{AllEdges}
use Rattle.asking.specs.Asking.{room_of}
use Rattle.asking.specs.State.{chain}
use Rattle.asking.specs.Passes.{Walked}
use Rattle.access.specs.Ready.{Planned}
use Rattle.unwinding.specs.Blocks.{BLOCKS, Blocks}
use Rattle.unwinding.specs.Going.{Oldest}

-- an image's plan, and where objects begin at the edges of all of its types
pub record Lent (image plan starts ends : List ℕ) : Type 0 where
  pub planned : Planned image plan
  pub typed : Typed (program_of image).types (program_of image).fields plan
  pub edges : AllEdges (program_of image).types (program_of image).fields plan starts ends

-- the cells below top are those of these frames, and the blocks tell which begin where
pub record Framed (g : Program) (store : List ℤ) (top : ℕ) (blocks qs : List ℕ) : Type 0 where
  pub base : ℕ
  pub walked : Walked g qs store base top
  pub blocked : Blocks g qs blocks

-- they are those of some frames, and one of these begins at base
pub record Stacked (g : Program) (store : List ℤ) (top : ℕ) (blocks : List ℕ) (base : ℕ) : Type 0 where
  pub frames : List ℕ
  pub framed : Framed g store top blocks frames
  pub procedure : ℕ
  pub older : List ℕ
  pub oldest : Oldest (procedure ∷ older) frames
  pub start : base ≡ room_of g older
  pub cells : top ≤ length store
  pub small : length store ≤ 65536
  pub table : BLOCKS ≤ length blocks

-- the state that is asked of: its frames are those that the links lead to, from that of procedure q at base on
pub record Asked (g : Program) (store : List ℤ) (q base top : ℕ) (blocks : List ℕ) : Type 0 where
  pub walked : Walked g (chain g store (suc base) q base) store base top
  pub blocked : Blocks g (chain g store (suc base) q base) blocks
  pub table : BLOCKS ≤ length blocks
  pub cells : top ≤ length store
  pub small : length store ≤ 65536
