-- What the code that passes arguments asks, answers and leaves.
use Rattle.std.specs.Prelude.{ℕ, ◌+◌, ◌≤◌, ◌<◌, ◌≡◌, List, ℤ, pos, length, Result, Ok, Err}
use Rattle.image.specs.Rows.{row_at, rows_of}
use Rattle.values.specs.declared.Trap.{Trap}
use Rattle.values.specs.declared.Stop.{Stop}
use Rattle.values.specs.declared.Stop.TheVariants as St
use Rattle.places.specs.Places.{width_of}
use Rattle.semantics.specs.Memory.{Memory, overwrite}
use Rattle.semantics.specs.Layout.{Program, place_of}
use Rattle.semantics.specs.Stepping.{State, Next, Next.trapped, Next.stuck, with_cells, argument_cells}
use Rattle.semantics.specs.Running.{program_of}
use Rattle.calling.specs.declared.Step.{Step}
use Rattle.calling.specs.declared.Step.TheVariants as Steps

-- What passing arguments comes to: nothing more, or why they are not passed, a trap or that no rule applies ("stuck").
abbrev pub Passing : Type 0
Passing = Result (Unit {0}) Stop

-- ---- "A trap in an operand ends the step with that trap."

unfoldable pub ended_by : Passing → Step
ended_by (Ok done) = Steps.Stuck
ended_by (Err (St.Trap t)) = Steps.Trapped t (pos 0)
ended_by (Err St.Stuck) = Steps.Stuck

-- ---- "each argument is written once found"

-- on with the state whose new frame has cells at a place
unfoldable pub framed : {X : Type 0} → State X → ℕ → (State X → Next X) → List X → Next X
framed s place next new = next (with_cells s (overwrite s.cells (s.at.top + place) new))

-- one argument, of node row k to variable row a
unfoldable pub passed_one : {X : Type 0} → Memory X → Program → ℕ → ℕ → State X → (State X → Next X) → Next X
passed_one m g k a s next = argument_cells m g s k (row_at g.variables a) (framed s (place_of g a) next)

-- the new frame has room for variable row a
pub record Roomy (image : List ℕ) (top a : ℕ) (cells : List ℤ) : Type 0 where
  pub there : a < rows_of (program_of image).variables
  pub room : top + (place_of (program_of image) a
      + width_of (program_of image).types (program_of image).fields (program_of image).variables a) ≤ length cells

-- from state s: what arguments come to, whatever follows them, the code's answer, and the cells that it leaves
pub data Passes (s : State ℤ) (x : (State ℤ → Next ℤ) → Next ℤ) : Passing → List ℤ → Type 0 where
  passes_done : {cells : List ℤ} → ((next : State ℤ → Next ℤ) → x next ≡ next (with_cells s cells))
      → Passes s x (Ok tt) cells
  passes_trap : {t : Trap} {cells : List ℤ}
      → ((next : State ℤ → Next ℤ) → x next ≡ trapped t (pos 0) (with_cells s cells))
      → Passes s x (Err (St.Trap t)) cells
  passes_stuck : {cells : List ℤ} → ((next : State ℤ → Next ℤ) → x next ≡ stuck (with_cells s cells))
      → Passes s x (Err St.Stuck) cells
