-- The machine after a number of steps.
use Rattle.std.specs.Prelude.{ℕ, zero, suc, List, ℤ}
use Rattle.values.specs.declared.Trap.{Trap}
use Rattle.semantics.specs.Memory.{Memory}
use Rattle.semantics.specs.Layout.{Program}
use Rattle.semantics.specs.Stepping.{State, Next, Next.goes, Next.finished, Next.trapped, Next.stuck, step_of}

-- where the machine stands: in a state that has a next step, or behind its last step, which began in a state and
-- finished, or trapped (the trap, HALT's number, the state before and the state left), or had no rule (the state before
-- and the state left)
pub data Machine (X : Type 0) : Type 0 where
  running : State X → Machine X
  over : State X → Machine X
  failed : Trap → ℤ → State X → State X → Machine X
  lost : State X → State X → Machine X

-- a step from a state, then what follows: "A step that finishes or traps counts and is the last."
unfoldable pub moved : {X : Type 0} → Next X → State X → (State X → Machine X) → Machine X
moved (goes s') s more = more s'
moved finished s more = over s
moved (trapped t z s') s more = failed t z s s'
moved (stuck s') s more = lost s s'

-- "Each step takes the state that the one before left, and nothing else writes it.": after n steps from a state
unfoldable pub after : {X : Type 0} → Memory X → Program → List ℤ → ℕ → State X → Machine X
after m g input zero s = running s
after m g input (suc n) s = moved (step_of m g input s) s (after m g input n)
