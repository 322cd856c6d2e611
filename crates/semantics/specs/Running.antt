-- The run of an image and its results.
use Rattle.std.specs.Prelude.{ℕ, zero, suc, ◌+◌, max, List, ◌++◌, map, ltb, leb, eqb, ℤ, pos, length, drop, replicate}
use Rattle.prelude.specs.Choice.{choose}
use Rattle.image.specs.declared.Row.{Row}
use Rattle.image.specs.Rows.{row_at}
use Rattle.frames.specs.Variables.{globals_of}
use Rattle.frames.specs.Procedures.{first_variable, claimed_by}
use Rattle.places.specs.Places.{global_cells, frame_size}
use Rattle.values.specs.Values.{trap_number}
use Rattle.checker.specs.Check.{types_in, fields_in, variables_in, procedures_in, nodes_in, statements_in}
use Rattle.checker.specs.Check.{check_of, refusal_of, row_of}
use Rattle.semantics.specs.declared.Registers.{Registers}
use Rattle.semantics.specs.declared.RunResult.{RunResult}
use Rattle.semantics.specs.Memory.{LINK, Cell, Memory, tagged}
use Rattle.semantics.specs.Layout.{Program, new_top, kinds_from}
use Rattle.semantics.specs.Stepping.{State, Next, Next.goes, Next.finished, Next.trapped, Next.stuck, step_of}

-- the program of an image
unfoldable pub program_of : List ℕ → Program
program_of image = record {
  types = types_in image;
  fields = fields_in image;
  variables = variables_in image;
  procedures = procedures_in image;
  nodes = nodes_in image;
  statements = statements_in image;
}

-- ---- "Fresh: globals and procedure 0's frame zero, base G, top G + F0, row 0, counts 0."

-- G
unfoldable pub global_room : Program → ℕ
global_room g = global_cells g.types g.fields g.variables

-- G + F0
unfoldable pub first_top : Program → ℕ
first_top g = global_room g + frame_size g.types g.fields g.variables g.procedures 0

-- "A zeroed cell has the kind that its place gives": globals, three links, procedure 0's variables. "Cells above top
-- keep the last number put there."
unfoldable pub fresh_cells : {X : Type 0} → Memory X → Program → List ℤ → List X
fresh_cells m g store =
    map m.blank (kinds_from g 0 (globals_of g.variables))
    ++ (replicate 3 (m.mark LINK 0)
    ++ (map m.blank
    (kinds_from g (first_variable g.variables g.procedures 0) (claimed_by (row_at g.procedures 0)))
    ++ map m.loose (drop (first_top g) store)))

unfoldable pub fresh : {X : Type 0} → Memory X → Program → List ℤ → List ℤ → State X
fresh m g store output = record {
  at = record { row = 0; base = global_room g; top = first_top g; read = 0; written = 0 };
  cells = fresh_cells m g store;
  output = output;
}

-- ---- "a mark: the largest of G + F0 and the tops asked for by calls that passed the store check"

-- the top that the step from here asks for in a store of so many cells: a call's that passes the store check, also where
-- an argument then traps; of any other step 0
unfoldable pub asked_by : Program → Registers → ℕ → ℕ
asked_by g s cells =
    let row : Row = row_at g.statements s.row in
    let top : ℕ = new_top g s.top row.a in
    choose (eqb row.kind 1) (choose (ltb cells top) 0 top) 0

-- the mark behind the step from a state, where it was so large before
unfoldable pub raised : {X : Type 0} → Program → State X → ℕ → ℕ
raised g s mark = max mark (asked_by g s.at (length s.cells))

-- ---- "A run takes image, input, store, output and 0 to 4294967295 steps."

-- where a run ended: "outcome (0 steps used up, 1 finished, 2 trapped)", 3 stuck
pub record Ended (X : Type 0) : Type 0 where
  pub outcome : ℕ
  pub trap : ℕ
  pub halt : ℤ
  pub steps : ℕ
  pub mark : ℕ
  pub state : State X

-- "A step that finishes or traps counts and is the last."
unfoldable pub onward : {X : Type 0} → Next X → State X → ℕ → ℕ → (State X → Ended X) → Ended X
onward (goes s') s k mark next = next s'
onward finished s k mark next = record { outcome = 1; trap = 0; halt = pos 0; steps = k; mark = mark; state = s }
onward (trapped t z s') s k mark next =
    record { outcome = 2; trap = trap_number t; halt = z; steps = k; mark = mark; state = s' }
onward (stuck s') s k mark next = record { outcome = 3; trap = 0; halt = pos 0; steps = k; mark = mark; state = s' }

-- n steps more, where k were done before, and the mark was so large
unfoldable pub run_from : {X : Type 0} → Memory X → Program → List ℤ → ℕ → ℕ → ℕ → State X → Ended X
run_from m g input zero k mark s = record { outcome = 0; trap = 0; halt = pos 0; steps = k; mark = mark; state = s }
run_from m g input (suc n) k mark s =
    onward (step_of m g input s) s (k + 1) (raised g s mark)
    (λ s'. run_from m g input n (k + 1) (raised g s mark) s')

-- ---- refusals

-- "12. Has the store at most 65,536 cells? 13. Has it at least G + F0?", after the check
unfoldable pub refusal : List ℕ → List ℤ → ℕ
refusal image store =
    choose (eqb (refusal_of (check_of image)) 0)
    (choose (leb (length store) 65536) (choose (leb (first_top (program_of image)) (length store)) 0 13) 12)
    (refusal_of (check_of image))

-- ---- what a call gives back: "a refusal leaves store and output untouched, other results 0"

-- "refusal, row of refusal, outcome .., trap, HALT number, statement row, steps, read, written", with base, top, mark
unfoldable pub numbers_of : {X : Type 0} → Ended X → RunResult
numbers_of e = record {
  refusal = 0;
  fault = 0;
  outcome = e.outcome;
  trap = e.trap;
  halt = e.halt;
  steps = e.steps;
  at = e.state.at;
  mark = e.mark;
}

-- a refusal's: "other results 0"
unfoldable pub refused_with : ℕ → ℕ → RunResult
refused_with q row = record {
  refusal = q;
  fault = row;
  outcome = 0;
  trap = 0;
  halt = pos 0;
  steps = 0;
  at = record { row = 0; base = 0; top = 0; read = 0; written = 0 };
  mark = 0;
}

-- the result, by the number of the refusal or 0, its row, and where the call ended
unfoldable pub result_by : ℕ → ℕ → Ended Cell → RunResult
result_by q row e = choose (eqb q 0) (numbers_of e) (refused_with q row)

-- the store, which "a refusal leaves .. untouched"
unfoldable pub store_by : ℕ → Ended Cell → List ℤ → List ℤ
store_by q e store = choose (eqb q 0) (map tagged.number e.state.cells) store

-- the output, which "a refusal leaves .. untouched"
unfoldable pub output_by : ℕ → Ended Cell → List ℤ → List ℤ
output_by q e output = choose (eqb q 0) e.state.output output

-- ---- the results of a run

-- "A run takes image, input, store, output and 0 to 4294967295 steps.": where the tagged machine ends, from fresh
unfoldable pub ran_of : List ℕ → List ℤ → List ℤ → List ℤ → ℕ → Ended Cell
ran_of image input store output steps =
    run_from tagged (program_of image) input steps 0 (first_top (program_of image))
    (fresh tagged (program_of image) store output)

-- "It returns refusal, row of refusal, outcome .., trap, HALT number, statement row, steps, read, written"
unfoldable pub result_of : List ℕ → List ℤ → List ℤ → List ℤ → ℕ → RunResult
result_of image input store output steps =
    result_by (refusal image store) (row_of (check_of image)) (ran_of image input store output steps)

-- "the lent store holds the numbers": those that it leaves there
unfoldable pub store_after : List ℕ → List ℤ → List ℤ → List ℤ → ℕ → List ℤ
store_after image input store output steps =
    store_by (refusal image store) (ran_of image input store output steps) store

-- "output places from written on keep their numbers": all of them, as it leaves them
unfoldable pub output_after : List ℕ → List ℤ → List ℤ → List ℤ → ℕ → List ℤ
output_after image input store output steps =
    output_by (refusal image store) (ran_of image input store output steps) output
