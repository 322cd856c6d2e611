-- The run's loop: what is known behind k steps, and how it goes on.
use mathlib.Core.Path.{◌≡◌, refl, sym, ◌∙◌, ap}
use mathlib.Core.List.{List, [], ◌∷◌}
use Prim.Native.Nat.{ℕ, suc, ◌+◌, ◌-◌, ◌≤◌, ◌<◌, max}
use native.Mathlib.Omega.{arith}
use denote.Enum.Declared.{tag_of}
use types.Run.{OneOf}
use mathlib.Core.Logic.{⊎_elim}
use lib.IntN.{ℤ, pos}
use lib.ListN.{length}
use Rattle.values.proofs.Binding.{neither}
use Rattle.semantics.specs.declared.Registers.{Registers}
use Rattle.semantics.specs.Memory.{bare}
use Rattle.semantics.specs.Layout.{Program}
use Rattle.semantics.specs.Stepping.{State, Next, Next.goes, step_of}
use Rattle.semantics.specs.Running.{asked_by, raised, Ended, onward, run_from, numbers_of}
use Rattle.semantics.proofs.Reporting.{goes_raised}
use Rattle.calling.specs.declared.Step.{Step}
use Rattle.calling.specs.declared.Step.TheVariants as Steps
use Rattle.calling.specs.contracts.Step.{the_type as step_type}
use Rattle.calling.specs.Showing.{state_of, Stands, OneLater, Shows, Shows.shows_goes, Shows.shows_end}
use Rattle.calling.specs.Showing.{Shows.shows_trap, Shows.shows_stuck}
use Rattle.machine.specs.Stopping.{ended_with, stop_by, Stops}

-- one step later steps can be taken, too
later_stands : {s q : Registers} {cells cells' : List ℤ} → Stands s cells → OneLater q cells'
    → length cells' ≡ length cells → Stands q cells'
later_stands h later same = record {
  row = later.row;
  base = later.base;
  top = later.top;
  few = rw same h.few;
}

module _ (g : Program) (input : List ℤ) where
  -- from s₀, where `done` steps were done before n more and the mark was `first`, behind k in all: the state s, the mark,
  -- which top does not exceed, and the run that is left
  pub record Along (n done first : ℕ) (s₀ s : State ℤ) (k mark : ℕ) : Type 0 where
    pub stands : Stands s.at s.cells
    pub cells_kept : length s.cells ≡ length s₀.cells
    pub output_kept : length s.output ≡ length s₀.output
    pub top : s.at.top ≤ mark
    pub rest : run_from bare g input n done first s₀ ≡ run_from bare g input (done + n - k) k mark s

  pub along_start : (n done first : ℕ) (s : State ℤ) → Stands s.at s.cells → s.at.top ≤ first
      → Along n done first s s done first
  along_start n done first s h top =
      let all : done + n - done ≡ n = omega arith in
      record { stands = h; cells_kept = refl; output_kept = refl; top = top; rest = rw all }

  -- the next step of the run that is left
  pub along_next : {n done first k mark : ℕ} {s₀ s : State ℤ} → Along n done first s₀ s k mark → k < done + n
      → run_from bare g input n done first s₀
      ≡ onward (step_of bare g input s) s (k + 1) (raised g s mark)
      (λ u. run_from bare g input (done + n - (k + 1)) (k + 1) (raised g s mark) u)
  unfolding run_from
  along_next {n} {done} {k = k} h low =
      let more : done + n - k ≡ suc (done + n - (k + 1)) = omega arith in
      h.rest ∙ rw more

  pub along_more : {n done first k mark : ℕ} {s₀ s : State ℤ} {q : Registers} {cells output : List ℤ}
      → Along n done first s₀ s k mark → k < done + n
      → step_of bare g input s ≡ goes (state_of q cells output) → OneLater q cells
      → length cells ≡ length s.cells → length output ≡ length s.output
      → Along n done first s₀ (state_of q cells output) (k + 1) (max mark q.top)
  unfolding onward
  along_more {mark = mark} {s = s} h low e later cells output =
      let new = goes_raised input bare g mark s _ h.top e in
      record {
        stands = later_stands h.stands later cells;
        cells_kept = cells ∙ h.cells_kept;
        output_kept = output ∙ h.output_kept;
        top = omega arith;
        rest = along_next h low ∙ rw (e, new);
      }

-- ---- what the code of a step tells of the machine's

pub shows_going : {s : State ℤ} {x : Next ℤ} {q : Registers} {cells output : List ℤ}
    → Shows s x (Steps.Goes q) cells output → (x ≡ goes (state_of q cells output)) × OneLater q cells
shows_going (shows_goes e later) = (ap goes e, later)

no_three : {X : Type 0} {a b c d : ℕ} → (a ≡ b → ⊥) → (a ≡ c → ⊥) → (a ≡ d → ⊥) → OneOf (b ∷ c ∷ d ∷ []) a → X
no_three p q r t = absurd (⊎_elim p (⊎_elim q r) t)

pub shows_last : {s : State ℤ} {x : Next ℤ} {r : Step} {cells output : List ℤ} → Shows s x r cells output
    → OneOf (1 ∷ 2 ∷ 3 ∷ []) (tag_of step_type r) → (k mark : ℕ) (next : State ℤ → Ended ℤ)
    → Stops (onward x s k mark next) (stop_by r s.at k mark) cells output
unfolding onward stop_by ended_with numbers_of
shows_last (shows_goes e later) t k mark next = no_three (omega arith) (omega arith) (omega arith) t
shows_last (shows_end c o) t k mark next = record { answer = refl; cells_left = sym c; output_left = sym o }
shows_last (shows_trap e o) t k mark next = record { answer = rw e; cells_left = rw e; output_left = rw e }
shows_last (shows_stuck e o) t k mark next = record { answer = rw e; cells_left = rw e; output_left = rw e }

-- ---- the end of the run

module _ (g : Program) (input : List ℤ) where
  -- the last step, with the mark that the top it asked for makes
  pub along_last : {n done first k mark : ℕ} {s₀ s : State ℤ} {r : Step} {cells output : List ℤ}
      → Along g input n done first s₀ s k mark → k < done + n
      → Shows s (step_of bare g input s) r cells output → OneOf (1 ∷ 2 ∷ 3 ∷ []) (tag_of step_type r)
      → length cells ≡ length s.cells → {asked new : ℕ} → asked ≡ asked_by g s.at (length cells)
      → new ≡ max mark asked
      → Stops (run_from bare g input n done first s₀) (stop_by r s.at (k + 1) new) cells output
  unfolding raised
  along_last {k = k} {mark} {s = s} h low shows last same asked new =
      rw (along_next g input h low, new, asked, same) (shows_last shows last (k + 1) (raised g s mark) _)

  pub along_out : {n done first k mark : ℕ} {s₀ s : State ℤ} → Along g input n done first s₀ s k mark → k ≡ done + n
      → Stops (run_from bare g input n done first s₀) (ended_with 0 0 (pos 0) (done + n) s.at mark) s.cells s.output
  unfolding run_from numbers_of ended_with
  along_out {n} {done} {k = k} h all =
      let none : done + n - k ≡ 0 = omega arith in
      rw (h.rest, none) (record { answer = rw all; cells_left = refl; output_left = refl })

-- a step that goes on, or is stuck, is no last one that the paper has a number for
pub stop_other : (x : Step) → OneOf (0 ∷ 3 ∷ []) (tag_of step_type x) → (s : Registers) (k mark : ℕ)
    → stop_by x s k mark ≡ ended_with 3 0 (pos 0) k s mark
unfolding stop_by
stop_other (Steps.Goes q) t s k mark = refl
stop_other Steps.Finished t s k mark = neither (omega arith) (omega arith) t
stop_other (Steps.Trapped u z) t s k mark = neither (omega arith) (omega arith) t
stop_other Steps.Stuck t s k mark = refl
