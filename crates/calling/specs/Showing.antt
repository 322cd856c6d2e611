-- What the code of a step answers and leaves, and the step of the machine on bare numbers that it stands for.
use Rattle.std.specs.Prelude.{◌≤◌, ◌≡◌, List, ℤ, length}
use Rattle.values.specs.declared.Trap.{Trap}
use Rattle.semantics.specs.declared.Registers.{Registers}
use Rattle.semantics.specs.Stepping.{State, Next, Next.goes, Next.finished, Next.trapped, Next.stuck}
use Rattle.calling.specs.declared.Step.{Step}
use Rattle.calling.specs.declared.Step.TheVariants as Steps

-- the machine's state that numbers and lists are
abbrev pub state_of : Registers → List ℤ → List ℤ → State ℤ
state_of s cells output = record { at = s; cells = cells; output = output }

-- from here steps can be taken, with no number past 32 bits
pub record Stands (s : Registers) (cells : List ℤ) : Type 0 where
  pub row : s.row ≤ 65536
  pub base : s.base ≤ 65536
  pub top : s.top ≤ length cells
  pub few : length cells ≤ 65536

-- the numbers of one step later
pub record OneLater (q : Registers) (cells : List ℤ) : Type 0 where
  pub row : q.row ≤ 65536
  pub base : q.base ≤ 65536
  pub top : q.top ≤ length cells

-- from state s: what a step comes to, the code's answer, and the cells and outputs that it leaves. A step that traps or
-- is stuck keeps the numbers and the output.
pub data Shows (s : State ℤ) : Next ℤ → Step → List ℤ → List ℤ → Type 0 where
  shows_goes : {u : State ℤ} {q : Registers} {cells output : List ℤ} → u ≡ state_of q cells output
      → OneLater q cells → Shows s (goes u) (Steps.Goes q) cells output
  shows_end : {cells output : List ℤ} → cells ≡ s.cells → output ≡ s.output
      → Shows s finished Steps.Finished cells output
  shows_trap : {t : Trap} {z : ℤ} {u : State ℤ} {cells output : List ℤ} → u ≡ state_of s.at cells output
      → output ≡ s.output → Shows s (trapped t z u) (Steps.Trapped t z) cells output
  shows_stuck : {u : State ℤ} {cells output : List ℤ} → u ≡ state_of s.at cells output → output ≡ s.output
      → Shows s (stuck u) Steps.Stuck cells output
