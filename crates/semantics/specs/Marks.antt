-- What a mark is, in the words of request 3: "the largest of G + F0 and the tops asked for by calls that passed the store
-- check". `Running` has how a run finds it.
use Rattle.std.specs.Prelude.{ℕ, ◌≤◌, ◌<◌, ◌≡◌, List, ◌⊎◌, ℤ, length}
use Rattle.image.specs.Rows.{row_at}
use Rattle.semantics.specs.Memory.{Cell, tagged}
use Rattle.semantics.specs.Layout.{Program, new_top}
use Rattle.semantics.specs.Stepping.{State}
use Rattle.semantics.specs.After.{Machine.running, after}

-- ---- "the tops asked for by calls that passed the store check"

-- the step from s is a call that asks for this top, and passes the store check
pub record Asks (g : Program) (s : State Cell) (top : ℕ) : Type 0 where
  pub call : (row_at g.statements s.at.row).kind ≡ 1
  pub asked : top ≡ new_top g s.at.top (row_at g.statements s.at.row).a
  pub passed : top ≤ length s.cells

-- one of the first n steps from s does, also where an argument then traps
pub record AskedWithin (g : Program) (input : List ℤ) (n : ℕ) (s : State Cell) (top : ℕ) : Type 0 where
  pub steps : ℕ
  pub low : steps < n
  pub state : State Cell
  pub reached : after tagged g input steps s ≡ running state
  pub asks : Asks g state top

-- "the largest of" a first number, G + F0 or an earlier result's mark, "and the tops asked for"
pub record Largest (g : Program) (input : List ℤ) (n : ℕ) (s : State Cell) (first mark : ℕ) : Type 0 where
  pub from_first : first ≤ mark
  pub from_calls : {top : ℕ} → AskedWithin g input n s top → top ≤ mark
  pub one_of_them : (mark ≡ first) ⊎ AskedWithin g input n s mark
