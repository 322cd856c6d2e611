-- What the check leaves of an image that it accepts is the plan that a machine needs.
use Rattle.std.specs.Prelude.{Ok, Err}
use Rattle.checker.specs.declared.Refusal.{Refusal}
use Rattle.checker.specs.Check.{CheckAnswer, check_of}
use mathlib.Core.Path.{◌≡◌, refl, sym, ◌∙◌}
use mathlib.Core.Bool.{true}
use mathlib.Core.List.{List}
use Prim.Native.Nat.{ℕ, zero, suc, ◌+◌, ◌≤◌, ◌<◌}
use native.Mathlib.Omega.{arith}
use native.Mathlib.Decide.{dec_lt}
use borrow.Author.Tests.{eq-eqb}
use lib.ListN.{length, get_or}
use Rattle.prelude.specs.Cells.{Filled}
use Rattle.image.specs.Rows.{row_at, rows_of}
use Rattle.header.specs.Header.{tables_in}
use Rattle.sizes.specs.Cells.{PLACES, FRAMES, FIRSTS, GLOBALS, BOUNDS, OWNERS, NODES, LOWER, UPPER, RUN_PLAN}
use Rattle.types.specs.Plan.{Plan}
use Rattle.relations.proofs.Fielding.{field_known}
use Rattle.frames.specs.Variables.{is_global, globals_of}
use Rattle.frames.specs.Procedures.{first_variable}
use Rattle.statements.specs.Statements.{procedure_at}
use Rattle.places.proofs.Counting.{first_none}
use Rattle.places.proofs.Owning.{Own as OwnRow, plan_kept, own_place}
use Rattle.checker.specs.Prepared.{Whole, Leaves, Leaves.whole, Leaves.some, bound_of}
use Rattle.checker.specs.Prepared.{Prepared, Prepared.untouched, Prepared.refused, Prepared.prepared}
use Rattle.checker.proofs.Accepted.{AcceptedTables}
use Rattle.semantics.specs.Layout.{Program, place_of}
use Rattle.semantics.specs.Running.{program_of, global_room}
use Rattle.semantics.specs.Sound.{Own}
use Rattle.semantics.proofs.Demand3.{program_accepted}
use Rattle.semantics.proofs.Objects.{global_kind, place_own, place_global}
use Rattle.ancestors.specs.Ancestors.{word_of}
use Rattle.access.specs.Ready.{node_cell, Checked, Ready, Opened, Opened.closed, Opened.opened}

-- a variable behind the globals is a procedure's own
owned : (v p : List ℕ) (a n : ℕ) → globals_of v ≤ a → a < first_variable v p n → (q : ℕ) × (q < n) × OwnRow v p q a
owned v p a zero low high = absurd (omega (arith, first_none v p))
owned v p a (suc n) low high = go (dec_lt a (first_variable v p n)) (owned v p a n low)
  where
    go : Dec (a < first_variable v p n) → (a < first_variable v p n → (q : ℕ) × (q < n) × OwnRow v p q a)
        → (q : ℕ) × (q < suc n) × OwnRow v p q a
    go (yes h) before = let (q, less, own) = before h in (q, omega arith, own)
    go (no h) before =
        let one : suc n ≡ n + 1 = omega arith in
        (n, omega arith, record { low = omega arith; high = rw one at high })

-- the first variables are globals
global_is : (v : List ℕ) (a : ℕ) → a < globals_of v → is_global v a ≡ true
unfolding is_global
global_is v a h = eq-eqb (row_at v a).kind 0 (global_kind v a h)

module _ (image old between : List ℕ) (room : RUN_PLAN ≤ length old) (accepted : check_of image ≡ Ok tt)
    (left : Whole (program_of image).types (program_of image).fields (program_of image).variables
    (program_of image).procedures old between) where
  abbrev g : Program
  g = program_of image

  ok : AcceptedTables g.types g.fields g.variables g.procedures g.nodes g.statements
  ok = program_accepted image accepted

  -- every variable's place is in the plan
  place_is : (a : ℕ) → a < rows_of g.variables → get_or between (PLACES + a) 0 ≡ place_of g a
  place_is a h = go (dec_lt a (globals_of g.variables))
    where
      go : Dec (a < globals_of g.variables) → get_or between (PLACES + a) 0 ≡ place_of g a
      go (yes global) =
          left.places.global a global
          ∙ sym (place_global g ok a (global_is g.variables a global))
      go (no other) =
          let all = ok.procedures.claimed in
          let n = rows_of g.procedures in
          let (q, less, own) = owned g.variables g.procedures a n (omega arith) (omega arith) in
          let mine : Own g q a = record { low = own.low; high = own.high } in
          let here = own_place g.types g.fields g.variables g.procedures q a own in
          here left.typed between left.places less
          ∙ sym (place_own g ok q a less mine)

  -- later cells may be written behind those of types, variables and procedures
  module _ (plan : List ℕ) (cells : length plan ≡ length between)
      (same : (i : ℕ) → i < BOUNDS → get_or plan i 0 ≡ get_or between i 0)
      (bound : (j : ℕ) → j < 12 → get_or plan (BOUNDS + j) 0 ≡ bound_of (tables_in image) j) where
    types_same : (i : ℕ) → i < PLACES → get_or plan i 0 ≡ get_or left.typed i 0
    types_same i h = same i (omega arith) ∙ left.places.types i h

    typed : Plan g.types g.fields (rows_of g.types) plan
    typed =
        plan_kept g.types g.fields left.typed plan types_same ok.questions.types ok.counts.types
        ok.counts.fields left.planned

    whole_checked : Checked image plan
    unfolding global_room
    whole_checked =
        let few = ok.counts in
        let many = few.variables in
        let procedures = few.procedures in
        record {
          accepted = accepted;
          cells = omega (arith, cells, left.places.cells, left.rest.cells);
          size = typed.size;
          field = field_known g.types g.fields plan ok.questions.types typed;
          place = λ a h. same (PLACES + a) (omega arith) ∙ place_is a h;
          frame = λ q h. same (FRAMES + q) (omega arith) ∙ left.places.frame q h;
          first = λ q h. same (FIRSTS + q) (omega arith) ∙ left.places.first q (omega arith);
          globals = same GLOBALS (omega arith) ∙ left.places.globals;
          bound = bound;
        }

-- what the check left of an image that it accepts
record Left (image old plan : List ℕ) : Type 0 where
  between : List ℕ
  whole_plan : Whole (program_of image).types (program_of image).fields (program_of image).variables
      (program_of image).procedures old between
  filled : Filled BOUNDS 12 (bound_of (tables_in image)) between plan

-- with acceptance the plan is whole
leaves_whole : {version : ℕ} {t f v p old plan : List ℕ} {x : CheckAnswer} → x ≡ Ok tt
    → Leaves version t f v p old x plan
    → Whole t f v p old plan
leaves_whole e (whole w) = w
leaves_whole e (some p r) = let z : ◌≡◌ {A = ℕ} 0 1 = cc in absurd (omega arith)

prepared_left : (image old plan : List ℕ) (x : CheckAnswer) → x ≡ Ok tt → Prepared image old x plan
    → Left image old plan
unfolding program_of
prepared_left image old plan x e (untouched header) = let z : ◌≡◌ {A = ℕ} 0 1 = cc in absurd (omega arith)
prepared_left image old plan x e (refused l) = let z : ◌≡◌ {A = ℕ} 0 1 = cc in absurd (omega arith)
prepared_left image old plan x e (prepared {between = between} l filled) =
    record { between = between; whole_plan = leaves_whole refl l; filled = filled }

-- what the check left with acceptance is there while only cells behind it are written
module _ (image old between plan : List ℕ) (room : RUN_PLAN ≤ length old) (accepted : check_of image ≡ Ok tt)
    (p : Prepared image old (Ok tt) between) (cells : length plan ≡ length between)
    (same : (i : ℕ) → i < OWNERS → get_or plan i 0 ≡ get_or between i 0) where
  left : Left image old between
  left = prepared_left image old between (Ok tt) refl p

  low_same : (i : ℕ) → i < BOUNDS → get_or plan i 0 ≡ get_or left.between i 0
  low_same i h = same i (omega arith) ∙ left.filled.below i h

  bounds_same : (j : ℕ) → j < 12 → get_or plan (BOUNDS + j) 0 ≡ bound_of (tables_in image) j
  bounds_same j h = same (BOUNDS + j) (omega arith) ∙ left.filled.cell j h

  pub prepared_checked : Checked image plan
  prepared_checked =
      whole_checked image old left.between room accepted left.whole_plan plan (cells ∙ left.filled.cells) low_same
      bounds_same

  pub prepared_typed : Plan (program_of image).types (program_of image).fields (rows_of (program_of image).types) plan
  prepared_typed =
      typed image old left.between room accepted left.whole_plan plan (cells ∙ left.filled.cells) low_same
      bounds_same

-- and the procedures of statements, what nodes designate and what each type extends with it
pub opened_ready : (image old plan : List ℕ) (x : CheckAnswer) → RUN_PLAN ≤ length old → x ≡ Ok tt
    → check_of image ≡ x → Opened image old x plan → Ready image plan
opened_ready image old plan x room e check (closed p) = let z : ◌≡◌ {A = ℕ} 0 1 = cc in absurd (omega arith)
opened_ready image old plan x room e check
    (opened {between = between} {owned = first} {designated = second} p owners nodes lower upper) =
    let few = (program_accepted image check).counts in
    let types_last : (i : ℕ) → i < LOWER → get_or plan i 0 ≡ get_or second i 0 =
    λ i h. upper.below i (omega arith) ∙ lower.below i h in
    let nodes_last : (i : ℕ) → i < NODES → get_or plan i 0 ≡ get_or first i 0 =
    λ i h. types_last i (omega arith) ∙ nodes.below i h in
    let checked =
    prepared_checked image old between plan room check p (upper.cells ∙ lower.cells ∙ nodes.cells ∙ owners.cells)
    (λ i h. nodes_last i (omega arith) ∙ owners.below i h) in
    record {
      planned = record {
        checked = checked;
        node = λ r h. types_last (NODES + r) (omega (arith, few.nodes)) ∙ nodes.cell r h;
        lower = λ r h. upper.below (LOWER + r) (omega arith) ∙ lower.cell r h;
        upper = upper.cell;
      };
      owner = λ r h. nodes_last (OWNERS + r) (omega (arith, few.statements)) ∙ owners.cell r h;
    }

-- ---- what `open_image` leaves

-- of a refused image
pub opened_no : (image old plan : List ℕ) (x : CheckAnswer) {r : Refusal} → x ≡ Err r → Prepared image old x plan
    → Opened image old x plan
opened_no image old plan x e p = rw e (closed (rw e at p))

-- of an accepted one
pub opened_yes : (image old between owned designated half plan p t : List ℕ) (n : ℕ)
    → Prepared image old (Ok tt) between → p ≡ (program_of image).procedures
    → n ≡ rows_of (program_of image).statements → t ≡ (program_of image).types
    → Filled OWNERS n (procedure_at p) between owned
    → Filled NODES (rows_of (program_of image).nodes) (node_cell (program_of image)) owned designated
    → Filled LOWER 64 (word_of t 0) designated half → Filled UPPER 64 (word_of t 32) half plan
    → Opened image old (Ok tt) plan
opened_yes image old between owned designated half plan p t n left procedures rows types owners nodes lower upper =
    opened left (rw (procedures, rows) at owners) nodes (rw types at lower) (rw types at upper)
