use mathlib.Core.Path.{◌≡◌, refl, sym, subst, ap, ◌∙◌}
use mathlib.Core.List.{List}
use Prim.Native.Nat.{ℕ, ◌≤◌, ◌<◌}
use native.Mathlib.Omega.{arith}
use borrow.Author.Tests.{ne_eqb}
use lib.IntN.{ℤ}
use Rattle.prelude.specs.Choice.{choose}
use Rattle.image.specs.declared.Row.{Row}
use Rattle.image.specs.Rows.{row_at, rows_of}
use Rattle.image.proofs.Bytes.{row_there}
use Rattle.semantics.specs.declared.Registers.{Registers}
use Rattle.semantics.specs.Memory.{bare}
use Rattle.semantics.specs.Running.{program_of}
use Rattle.semantics.specs.Stepping.{perform, step_of}
use Rattle.access.specs.Ready.{Planned}
use Rattle.access.proofs.Bounds.{statements_few, call_there}
use Rattle.calling.specs.Showing.{state_of, Shows.shows_stuck}
use Rattle.stepping.proofs.Showing.{shows_by, shows_row}
use Rattle.stepping.proofs.step.Goals as goal

-- `stepping::step` meets its contract: the statement's row, then by its kind.
-- ---- what is known of the statement's row

-- what a statement of a kind does
does : (image : List ℕ) (input : List ℤ) (s : Registers) (store output : List ℤ) {row : Row}
    → row ≡ row_at (program_of image).statements s.row → (k : ℕ) → row.kind ≡ k
    → step_of bare (program_of image) input (state_of s store output)
    ≡ perform bare (program_of image) input k row (state_of s store output)
unfolding step_of
does image input s store output {row} read k e =
    rw (← read) (ap (λ (j : ℕ). perform bare (program_of image) input j row (state_of s store output)) e)

module _ {image plan : List ℕ} (planned : Planned image plan) (r : ℕ) {row : Row}
    (read : row ≡ row_at (program_of image).statements r) where
  -- one of the eight kinds stands in its table
  within : row.kind < 8 → r < rows_of (program_of image).statements
  within h =
      let low : row.kind < 255 = omega arith in
      row_there _ _ (rw read at low)

  low : row.kind < 8 → r < 65536
  low h = omega (arith, within h, statements_few planned)

  -- the procedure that it calls is there
  called : row.kind ≡ 1 → row.a < rows_of (program_of image).procedures
  called e =
      subst (λ (x : Row). x.a < rows_of (program_of image).procedures) (sym read)
      (call_there planned r (sym (ap (λ (x : Row). x.kind) read) ∙ e))

pub assign-requires : goal.assign-requires
assign-requires c = (c.requires.0, low c.args.loaded.now.planned _ c.statement_at-statement.ensures (omega (arith, c.in-0.is)))

pub call-requires : goal.call-requires
call-requires c =
    let planned = c.args.loaded.now.planned in
    let read = c.statement_at-statement.ensures in
    (c.requires.0, called planned _ read c.in-1.is, within planned _ read (omega (arith, c.in-1.is)), c.requires.1)

pub jump-requires : goal.jump-requires
jump-requires c = (c.requires.0, low c.args.loaded.now.planned _ c.statement_at-statement.ensures (omega (arith, c.in-2.is)))

pub give_back-requires : goal.give_back-requires
give_back-requires c = (c.requires.0, within c.args.loaded.now.planned _ c.statement_at-statement.ensures (omega (arith, c.in-4.is)), c.requires.1)

pub receive-requires : goal.receive-requires
receive-requires c = (c.requires.0, low c.args.loaded.now.planned _ c.statement_at-statement.ensures (omega (arith, c.in-5.is)))

pub send-requires : goal.send-requires
send-requires c = (c.requires.0, low c.args.loaded.now.planned _ c.statement_at-statement.ensures (omega (arith, c.in-6.is)))

pub returns-in-0 : goal.returns-in-0
unfolding perform choose
returns-in-0 c =
    shows_by (does _ _ _ _ _ c.statement_at-statement.ensures 0 c.in-0.is)
    (c.assign.ensures _)

pub returns-in-1 : goal.returns-in-1
unfolding perform choose
returns-in-1 c =
    shows_by (does _ _ _ _ _ c.statement_at-statement.ensures 1 c.in-1.is)
    (c.call.ensures _)

pub returns-in-2 : goal.returns-in-2
unfolding perform choose
returns-in-2 c =
    shows_by (does _ _ _ _ _ c.statement_at-statement.ensures 2 c.in-2.is) (c.jump.ensures _)

pub returns-in-3 : goal.returns-in-3
unfolding perform choose
returns-in-3 c =
    let target : c.statement_at-statement.result.b ≤ 65536 = omega arith in
    shows_by (does _ _ _ _ _ c.statement_at-statement.ensures 3 c.in-3.is)
    (shows_row refl c.at_row.ensures target c.requires.0.base c.requires.0.top)

pub returns-in-4 : goal.returns-in-4
unfolding perform choose
returns-in-4 c =
    shows_by (does _ _ _ _ _ c.statement_at-statement.ensures 4 c.in-4.is) (c.give_back.ensures _)

pub returns-in-5 : goal.returns-in-5
unfolding perform choose
returns-in-5 c =
    shows_by (does _ _ _ _ _ c.statement_at-statement.ensures 5 c.in-5.is)
    (c.receive.ensures _)

pub returns-in-6 : goal.returns-in-6
unfolding perform choose
returns-in-6 c =
    shows_by (does _ _ _ _ _ c.statement_at-statement.ensures 6 c.in-6.is)
    c.send.ensures

pub returns-in-7 : goal.returns-in-7
unfolding perform choose
returns-in-7 c =
    shows_by (does _ _ _ _ _ c.statement_at-statement.ensures 7 c.in-7.is) (c.halt.ensures _)

pub returns-in_default : goal.returns-in_default
unfolding perform choose
returns-in_default c = shows_by (does _ _ _ _ _ c.statement_at-statement.ensures _ refl ∙ rw (
  ne_eqb _ 0 c.in_default.in_default-own.rest.0.0.0.0.0.0.0.1,
  ne_eqb _ 1 c.in_default.in_default-own.rest.0.0.0.0.0.0.1,
  ne_eqb _ 2 c.in_default.in_default-own.rest.0.0.0.0.0.1,
  ne_eqb _ 3 c.in_default.in_default-own.rest.0.0.0.0.1,
  ne_eqb _ 4 c.in_default.in_default-own.rest.0.0.0.1,
  ne_eqb _ 5 c.in_default.in_default-own.rest.0.0.1,
  ne_eqb _ 6 c.in_default.in_default-own.rest.0.1,
  ne_eqb _ 7 c.in_default.in_default-own.rest.1,
)) (shows_stuck refl refl)
