-- What the check leaves in a lent plan.
use Rattle.std.specs.Prelude.{Ok, Err, ℕ, ◌≤◌, ◌≡◌, List, eqb}
use Rattle.checker.specs.declared.Refusal.{Refusal}
use Rattle.checker.specs.Check.{refused_at, CheckAnswer, types_in, fields_in, variables_in, procedures_in}
use Rattle.prelude.specs.Choice.{choose}
use Rattle.prelude.specs.Cells.{Filled}
use Rattle.image.specs.Rows.{rows_of}
use Rattle.header.specs.declared.Tables.{Tables}
use Rattle.header.specs.Header.{version_of, header_of, tables_in, part_of}
use Rattle.sizes.specs.Cells.{BOUNDS}
use Rattle.types.specs.Plan.{Plan, Rest, passed}
use Rattle.types.specs.Question.{question4}
use Rattle.places.specs.Places.{Places}
use Rattle.checker.specs.declared.Parts.{Parts}

-- the parts that the tables are
pub record PartsOf (image : List ℕ) (ts : Tables) (x : Parts) : Type 0 where
  pub t : x.t.now ≡ part_of image ts.types
  pub f : x.f.now ≡ part_of image ts.fields
  pub v : x.v.now ≡ part_of image ts.variables
  pub p : x.p.now ≡ part_of image ts.procedures
  pub n : x.n.now ≡ part_of image ts.nodes
  pub s : x.s.now ≡ part_of image ts.statements

-- six tables whose counts are in range
pub record CountsFit (t f v p n s : List ℕ) : Type 0 where
  pub types : rows_of t ≤ 64
  pub fields : rows_of f ≤ 256
  pub variables : rows_of v ≤ 256
  pub some_procedure : 1 ≤ rows_of p
  pub procedures : rows_of p ≤ 64
  pub nodes : rows_of n ≤ 2048
  pub statements : rows_of s ≤ 1024

-- .. which are these parts
abbrev pub CountsIn : Parts → Type 0
CountsIn x = CountsFit x.t.now x.f.now x.v.now x.p.now x.n.now x.s.now

-- the plan behind accepted tables: sizes and offsets, then places and frame sizes, and every other cell as it was
pub record Whole (t f v p old plan : List ℕ) : Type 0 where
  pub typed : List ℕ
  pub planned : Plan t f (rows_of t) typed
  pub rest : Rest t (rows_of t) old typed
  pub places : Places t f v p typed plan

-- what the check leaves of six tables: where they are refused, what question 4 found of the type rows it passed
pub data Leaves (version : ℕ) (t f v p old : List ℕ) : CheckAnswer → List ℕ → Type 0 where
  whole : {plan : List ℕ} → Whole t f v p old plan → Leaves version t f v p old (Ok tt) plan
  some : {x : Refusal} {plan : List ℕ} → Plan t f (passed t (question4 version t f)) plan
      → Rest t (passed t (question4 version t f)) old plan → Leaves version t f v p old (Err x) plan

-- where the six tables stand: number j of twelve, a start and an end for each, in the tables' order
unfoldable pub bound_of : Tables → ℕ → ℕ
bound_of t j =
    choose (eqb j 0) t.types.start
    (choose (eqb j 1) t.types.end
    (choose (eqb j 2) t.fields.start
    (choose (eqb j 3) t.fields.end
    (choose (eqb j 4) t.variables.start
    (choose (eqb j 5) t.variables.end
    (choose (eqb j 6) t.procedures.start
    (choose (eqb j 7) t.procedures.end
    (choose (eqb j 8) t.nodes.start
    (choose (eqb j 9) t.nodes.end
    (choose (eqb j 10) t.statements.start t.statements.end))))))))))

-- they are small
pub record BoundsFit (t : Tables) : Type 0 where
  pub each : (j : ℕ) → bound_of t j ≤ 65536

-- .. and of an image: nothing without tables; with acceptance also where they stand, from cell BOUNDS on
pub data Prepared (image old : List ℕ) : CheckAnswer → List ℕ → Type 0 where
  untouched : {q : ℕ} → header_of image ≡ Err q → Prepared image old (Err (refused_at q 0)) old
  refused : {x : Refusal} {plan : List ℕ}
      → Leaves (version_of image) (types_in image) (fields_in image) (variables_in image) (procedures_in image) old
      (Err x) plan
      → Prepared image old (Err x) plan
  prepared : {between plan : List ℕ}
      → Leaves (version_of image) (types_in image) (fields_in image) (variables_in image) (procedures_in image) old (Ok tt)
      between
      → Filled BOUNDS 12 (bound_of (tables_in image)) between plan → Prepared image old (Ok tt) plan
