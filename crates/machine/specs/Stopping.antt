-- What the code of a run answers and leaves, and the run of the machine on bare numbers that it stands for.
use Rattle.std.specs.Prelude.{ℕ, ◌≡◌, List, leb, ℤ, pos}
use Rattle.prelude.specs.Choice.{choose}
use Rattle.values.specs.Values.{trap_number}
use Rattle.semantics.specs.declared.Registers.{Registers}
use Rattle.semantics.specs.declared.RunResult.{RunResult}
use Rattle.semantics.specs.Layout.{Program}
use Rattle.semantics.specs.Running.{first_top, Ended, numbers_of}
use Rattle.calling.specs.declared.Step.{Step}
use Rattle.calling.specs.declared.Step.TheVariants as Steps

-- the numbers of a run that was not refused
unfoldable pub ended_with : ℕ → ℕ → ℤ → ℕ → Registers → ℕ → RunResult
ended_with outcome trap halt steps at mark = record {
  refusal = 0;
  fault = 0;
  outcome = outcome;
  trap = trap;
  halt = halt;
  steps = steps;
  at = at;
  mark = mark;
}

-- a step that is the last, from numbers s, as the k-th, with the mark behind it
unfoldable pub stop_by : Step → Registers → ℕ → ℕ → RunResult
stop_by (Steps.Goes q) s k mark = ended_with 3 0 (pos 0) k s mark
stop_by Steps.Finished s k mark = ended_with 1 0 (pos 0) k s mark
stop_by (Steps.Trapped t z) s k mark = ended_with 2 (trap_number t) z k s mark
stop_by Steps.Stuck s k mark = ended_with 3 0 (pos 0) k s mark

-- "12. Has the store at most 65,536 cells? 13. Has it at least G + F0?" The number of the first that is answered no, or 0
unfoldable pub store_question : Program → ℕ → ℕ
store_question g cells = choose (leb cells 65536) (choose (leb (first_top g) cells) 0 13) 12

-- the code's answer, and the cells and outputs that it leaves
pub record Stops (e : Ended ℤ) (r : RunResult) (cells output : List ℤ) : Type 0 where
  pub answer : r ≡ numbers_of e
  pub cells_left : e.state.cells ≡ cells
  pub output_left : e.state.output ≡ output
