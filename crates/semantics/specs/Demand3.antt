-- What demand 3 says: after every number of steps the tagged machine's state is sound, and until it finishes or traps
-- its next step goes on, finishes, or ends in a named trap. It is never stuck. "Demand 3 is a single claim, about every
-- number of steps from the fresh state, and not one for each kind of statement."
use Rattle.std.specs.Prelude.{◌≡◌, List, ℤ, length, take}
use Rattle.values.specs.declared.Trap.{Trap}
use Rattle.semantics.specs.Memory.{Cell, tagged}
use Rattle.semantics.specs.Layout.{Program}
use Rattle.semantics.specs.Stepping.{State, Next, Next.goes, Next.finished, Next.trapped, step_of}
use Rattle.semantics.specs.Sound.{Sound}
use Rattle.semantics.specs.After.{Machine, Machine.running, Machine.over, Machine.failed}

-- "After any trap nothing below top, no output and no count but steps has changed, and row, base and top stay."
pub record Unchanged (s s' : State Cell) : Type 0 where
  pub registers : s'.at ≡ s.at
  pub below : take s.at.top s'.cells ≡ take s.at.top s.cells
  pub cells : length s'.cells ≡ length s.cells
  pub output : s'.output ≡ s.output

-- what a step from s comes to: it goes on to a sound state, with as many cells and output places as before, finishes,
-- or ends in one of the traps that document 01 names. There is no case for a step that is stuck.
pub data NextOk (g : Program) (s : State Cell) : Next Cell → Type 0 where
  ok_goes : {s' : State Cell} → Sound g s' → length s'.cells ≡ length s.cells
      → length s'.output ≡ length s.output → NextOk g s (goes s')
  ok_finished : NextOk g s finished
  ok_trapped : {t : Trap} {z : ℤ} {s' : State Cell} → Unchanged s s' → NextOk g s (trapped t z s')

-- where the machine stands: in a sound state with such a next step; or behind its last step, which from a sound state
-- finished, or trapped, left all below top as it was, and so a sound state. There is no case for a machine that is lost.
pub data SoundAfter (g : Program) (input : List ℤ) : Machine Cell → Type 0 where
  sound_running : {s : State Cell} → Sound g s → NextOk g s (step_of tagged g input s) → SoundAfter g input (running s)
  sound_over : {s : State Cell} → Sound g s → step_of tagged g input s ≡ finished → SoundAfter g input (over s)
  sound_failed : {t : Trap} {z : ℤ} {s s' : State Cell} → Sound g s → step_of tagged g input s ≡ trapped t z s'
      → Unchanged s s' → Sound g s' → SoundAfter g input (failed t z s s')
