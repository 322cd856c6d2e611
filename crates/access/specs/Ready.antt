-- What a machine needs to know of an image and its plan.
-- To the cells that `checker` fills, OWNERS + r adds the procedure whose body has statement row r, NODES + r what node
-- row r designates, and LOWER + r and UPPER + r which of the rows 0 to 31 and 32 to 63 type row r extends.
use Rattle.std.specs.Prelude.{Ok, Err, ℕ, ◌+◌, ◌≤◌, ◌<◌, ◌≡◌, List, eqb, length, get_or}
use Rattle.checker.specs.declared.Refusal.{Refusal}
use Rattle.checker.specs.Check.{CheckAnswer, check_of}
use Rattle.prelude.specs.Choice.{choose}
use Rattle.prelude.specs.Cells.{Filled}
use Rattle.image.specs.Rows.{rows_of}
use Rattle.header.specs.Header.{tables_in}
use Rattle.shapes.specs.Sizes.{size_of}
use Rattle.sizes.specs.Cells.{PLACES, FRAMES, FIRSTS, GLOBALS, BOUNDS, OWNERS, NODES, LOWER, UPPER, RUN_PLAN}
use Rattle.relations.specs.Fields.{field_of, planned_field}
use Rattle.frames.specs.Procedures.{first_variable}
use Rattle.statements.specs.Statements.{procedure_at}
use Rattle.places.specs.Places.{frame_size}
use Rattle.checker.specs.Prepared.{bound_of, Prepared}
use Rattle.semantics.specs.Layout.{Program, place_of}
use Rattle.semantics.specs.Running.{program_of, global_room}
use Rattle.ancestors.specs.Ancestors.{word_of}
use Rattle.designators.specs.Designators.{cell_of}

-- table k of the six, in their order
unfoldable pub table_of : Program → ℕ → List ℕ
table_of g k =
    choose (eqb k 0) g.types
    (choose (eqb k 1) g.fields
    (choose (eqb k 2) g.variables
    (choose (eqb k 3) g.procedures
    (choose (eqb k 4) g.nodes g.statements))))

-- what a node designates
abbrev pub node_cell : Program → ℕ → ℕ
node_cell g = cell_of g.types g.fields g.variables g.nodes

-- an accepted image and a plan with its sizes, fields, places, frames and tables
pub record Checked (image plan : List ℕ) : Type 0 where
  pub accepted : check_of image ≡ Ok tt
  pub cells : RUN_PLAN ≤ length plan
  pub size : (r : ℕ) → r < rows_of (program_of image).types
      → get_or plan r 0 ≡ size_of (program_of image).types (program_of image).fields r
  pub field : (r n : ℕ) → planned_field (program_of image).types (program_of image).fields plan n r
      ≡ field_of (program_of image).types (program_of image).fields r n
  pub place : (a : ℕ) → a < rows_of (program_of image).variables
      → get_or plan (PLACES + a) 0 ≡ place_of (program_of image) a
  pub frame : (q : ℕ) → q < rows_of (program_of image).procedures
      → get_or plan (FRAMES + q) 0 ≡ frame_size (program_of image).types (program_of image).fields
      (program_of image).variables (program_of image).procedures q
  pub first : (q : ℕ) → q < rows_of (program_of image).procedures
      → get_or plan (FIRSTS + q) 0 ≡ first_variable (program_of image).variables (program_of image).procedures q
  pub globals : get_or plan GLOBALS 0 ≡ global_room (program_of image)
  pub bound : (j : ℕ) → j < 12 → get_or plan (BOUNDS + j) 0 ≡ bound_of (tables_in image) j

-- with what each node designates and what each type extends
pub record Planned (image plan : List ℕ) : Type 0 where
  pub checked : Checked image plan
  pub node : (r : ℕ) → r < rows_of (program_of image).nodes → get_or plan (NODES + r) 0 ≡ node_cell (program_of image) r
  pub lower : (r : ℕ) → r < 64 → get_or plan (LOWER + r) 0 ≡ word_of (program_of image).types 0 r
  pub upper : (r : ℕ) → r < 64 → get_or plan (UPPER + r) 0 ≡ word_of (program_of image).types 32 r

-- and the procedure of each statement
pub record Ready (image plan : List ℕ) : Type 0 where
  pub planned : Planned image plan
  pub owner : (r : ℕ) → r < rows_of (program_of image).statements
      → get_or plan (OWNERS + r) 0 ≡ procedure_at (program_of image).procedures r

-- what the check leaves in a lent plan, and behind acceptance the procedure of each statement, what each node
-- designates and what each type extends
pub data Opened (image old : List ℕ) : CheckAnswer → List ℕ → Type 0 where
  closed : {x : Refusal} {plan : List ℕ} → Prepared image old (Err x) plan → Opened image old (Err x) plan
  opened : {between owned designated half plan : List ℕ} → Prepared image old (Ok tt) between
      → Filled OWNERS (rows_of (program_of image).statements) (procedure_at (program_of image).procedures) between owned
      → Filled NODES (rows_of (program_of image).nodes) (node_cell (program_of image)) owned designated
      → Filled LOWER 64 (word_of (program_of image).types 0) designated half
      → Filled UPPER 64 (word_of (program_of image).types 32) half plan
      → Opened image old (Ok tt) plan
