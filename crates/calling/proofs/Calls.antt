-- Laws of a call: the store check, the room of the arguments, and what passing them and entering the frame come to.
use mathlib.Core.Path.{◌≡◌, refl, ◌∙◌, ap}
use mathlib.Core.List.{List}
use Prim.Native.Nat.{ℕ, ◌+◌, ◌≤◌, ◌<◌}
use native.Mathlib.Omega.{arith}
use borrow.Author.Tests.{lt-ltb, le-ltb}
use lib.IntN.{ℤ, pos}
use lib.ListN.{length}
use Rattle.prelude.proofs.Choice.{choose_yes, choose_no}
use Rattle.image.specs.declared.Row.{Row}
use Rattle.image.specs.Rows.{row_at, rows_of}
use Rattle.shapes.specs.Sizes.{size_of}
use Rattle.frames.specs.Procedures.{claimed_by, first_variable}
use Rattle.places.specs.Places.{frame_size}
use Rattle.places.proofs.Rooms.{room_up}
use Rattle.values.specs.declared.Trap.TheVariants as Ts
use Rattle.semantics.specs.declared.Registers.{Registers}
use Rattle.semantics.specs.Memory.{bare}
use Rattle.semantics.specs.Layout.{Program}
use Rattle.semantics.specs.Stepping.{State, Next, Next.goes, with_cells, passed, entered, called}
use Rattle.semantics.specs.Running.{program_of}
use Rattle.access.specs.Ready.{Planned}
use Rattle.access.proofs.Bounds.{claimed_there, variables_few, place_in_lem}
use Rattle.calling.specs.declared.Step.{Step}
use Rattle.calling.specs.declared.Step.TheVariants as Steps
use Rattle.calling.specs.Showing.{state_of, Shows, Shows.shows_goes, Shows.shows_trap, Shows.shows_stuck}
use Rattle.calling.specs.Passing.{Passing, ended_by, Roomy}
use Rattle.calling.specs.Passing.{Passes, Passes.passes_done, Passes.passes_trap, Passes.passes_stuck}
use Rattle.std.specs.Prelude.{Ok}

-- ---- the room of the arguments

-- procedure q's row and first variable, as the code has them
module _ {image plan : List ℕ} (p : Planned image plan) (q : ℕ) (exists : q < rows_of (program_of image).procedures)
    (row : Row) (this : row ≡ row_at (program_of image).procedures q)
    (at : ℕ) (begins : at ≡ first_variable (program_of image).variables (program_of image).procedures q) where
  abbrev g : Program
  g = program_of image

  -- its first variable is a low row
  pub first_low : at ≤ 65536
  first_low = omega (arith, begins, claimed_there p q exists, variables_few p)

  -- a frame that fits the store has room for each parameter
  pub parameter_roomy : (top : ℕ) (cells : List ℤ)
      → top + frame_size g.types g.fields g.variables g.procedures q ≤ length cells
      → (j : ℕ) → j < row.b → Roomy image top (at + j) cells
  unfolding frame_size claimed_by
  parameter_roomy top cells room j less =
      let few = rw this at less in
      let claimed : j < (row_at g.procedures q).b + (row_at g.procedures q).c = omega arith in
      let place = place_in_lem p q j exists claimed in
      let ends = room_up (size_of g.types g.fields) g.variables
      (first_variable g.variables g.procedures q) j _ claimed in
      rw begins (record { there = omega (arith, claimed_there p q exists); room = omega arith })

-- ---- what it comes to

-- arguments that are not passed end the step
shows_ended : {s : State ℤ} {x : (State ℤ → Next ℤ) → Next ℤ} {r : Passing} {cells : List ℤ}
    → ((u : Unit {0}) → r ≡ Ok u → ⊥) → Passes s x r cells → (next : State ℤ → Next ℤ)
    → Shows s (x next) (ended_by r) cells s.output
unfolding ended_by with_cells
shows_ended h (passes_done k) next = absurd (h tt refl)
shows_ended h (passes_trap k) next = rw (k next) (shows_trap refl refl)
shows_ended h (passes_stuck k) next = rw (k next) (shows_stuck refl refl)

-- a step that goes on does so whatever the cells before
goes_from : {s : Registers} (before : List ℤ) {cells after output out : List ℤ} {u : State ℤ} {x : Step}
    → Shows (state_of s cells output) (goes u) x after out → Shows (state_of s before output) (goes u) x after out
goes_from before (shows_goes e later) = shows_goes e later

module _ (g : Program) (statement : Row) (s : Registers) (cells output : List ℤ) where
  abbrev room : ℕ
  room = s.top + frame_size g.types g.fields g.variables g.procedures statement.a

  abbrev state : State ℤ
  state = state_of s cells output

  -- trap "7 frame beyond the store"
  pub shows_beyond : length cells < room
      → Shows state (called bare g statement state) (Steps.Trapped Ts.Frame (pos 0)) cells output
  unfolding called
  shows_beyond less = rw (choose_yes _ _ _ (lt-ltb (length cells) room less)) (shows_trap refl refl)

  -- arguments passed from node row b on, to the variables from row `at` on
  module _ (fits : room ≤ length cells) (row : Row) (this : row ≡ row_at g.procedures statement.a)
      (at : ℕ) (begins : at ≡ first_variable g.variables g.procedures statement.a) where
    -- a frame that fits: the arguments, then the frame
    called_is : called bare g statement state
        ≡ passed bare g statement.b at row.b state (entered bare g statement.a row)
    unfolding called
    called_is = choose_no _ _ _ (le-ltb (length cells) room fits) ∙ rw (begins, this)

    abbrev arguments : (State ℤ → Next ℤ) → Next ℤ
    arguments = passed bare g statement.b at row.b state

    -- arguments that are not passed
    pub call_ended : {r : Passing} {left : List ℤ} → ((u : Unit {0}) → r ≡ Ok u → ⊥)
        → Passes state arguments r left → Shows state (called bare g statement state) (ended_by r) left output
    call_ended h passes = rw called_is (shows_ended h passes (entered bare g statement.a row))

    -- arguments that are passed, and the frame entered
    pub call_entered : {left after : List ℤ} {x : Step} → Passes state arguments (Ok tt) left
        → Shows (state_of s left output)
        (entered bare g statement.a (row_at g.procedures statement.a) (state_of s left output)) x after output
        → Shows state (called bare g statement state) x after output
    unfolding entered with_cells
    call_entered {left} (passes_done k) shows =
        let frame : called bare g statement state
        ≡ entered bare g statement.a (row_at g.procedures statement.a) (state_of s left output) =
        called_is
        ∙ k (entered bare g statement.a row)
        ∙ ap (λ (r : Row). entered bare g statement.a r (state_of s left output)) this in
        rw frame (goes_from cells shows)
