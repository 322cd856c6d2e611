-- What an accepted image's sizes, places and rows do not exceed.
use Rattle.relations.specs.Fields.{field_at, field_of}
use Rattle.std.specs.Prelude.{Some, None}
use mathlib.Core.Path.{◌≡◌, refl, sym, ◌∙◌}
use mathlib.Core.Bool.{Bool, true, false}
use mathlib.Core.List.{List}
use Prim.Native.Nat.{ℕ, ◌+◌, ◌-◌, ◌*◌, ◌≤◌, ◌<◌}
use native.Mathlib.Omega.{arith}
use native.Mathlib.Decide.{dec_lt}
use mathlib.Core.Logic.{◌⊎◌, inl, inr}
use borrow.Author.Tests.{lt-ltb, le-ltb}
use lib.Dec.{ltb}
use lib.IntN.{ℤ}
use Rattle.prelude.specs.Choice.{choose}
use Rattle.image.specs.Rows.{row_at, rows_of}
use Rattle.image.specs.Versions.{scalar_rows}
use Rattle.image.proofs.Versions.{three_rows, few_rows}
use Rattle.image.proofs.Bytes.{row_there}
use Rattle.values.specs.Values.{cell_of}
use Rattle.values.proofs.Scalars.{no_scalar_cell}
use Rattle.shapes.specs.Forms.{NO_KIND, kind_in, is_single}
use Rattle.shapes.specs.Sizes.{size_of}
use Rattle.shapes.proofs.Singles.{kind_single, no_single}
use Rattle.types.specs.Question.{TypesAccepted}
use Rattle.types.proofs.Accepted.{scalar_row, later_row}
use Rattle.shapes.proofs.Accepted.{size_small}
use Rattle.shapes.proofs.Layouts.{layout_length, field_layout, element_layout}
use Rattle.relations.proofs.Climbing.{planned_other}
use Rattle.relations.proofs.Fielding.{field_nth}
use Rattle.frames.specs.Variables.{is_global}
use Rattle.frames.specs.Procedures.{claimed_by, first_variable}
use Rattle.frames.proofs.Claiming.{globals_within}
use Rattle.places.specs.Places.{room_from, place_in, frame_size}
use Rattle.places.specs.Filling.{Claims}
use Rattle.places.proofs.Rooms.{room_small}
use Rattle.places.proofs.Owning.{claims_kept, width_kept, globals_kept, frame_kept_lem}
use Rattle.nodes.proofs.Accepted.{guard_is}
use Rattle.statements.proofs.Accepted.{call_is}
use Rattle.typing.proofs.Lower.{field_row, element_row}
use Rattle.checker.proofs.Accepted.{AcceptedTables}
use Rattle.semantics.specs.Layout.{Program, owner_of, place_of}
use Rattle.semantics.specs.Running.{program_of, global_room}
use Rattle.semantics.proofs.Demand3.{program_accepted}
use Rattle.semantics.proofs.Objects.{claimed_place}
use Rattle.access.specs.Ready.{Planned}

-- a choice of two numbers that are not large
either : (b : Bool) {x y m : ℕ} → x ≤ m → y ≤ m → choose b x y ≤ m
unfolding choose
either true h k = h
either false h k = k

module _ {image plan : List ℕ} (p : Planned image plan) where
  abbrev g : Program
  g = program_of image

  ok : AcceptedTables g.types g.fields g.variables g.procedures g.nodes g.statements
  ok = program_accepted image p.checked.accepted

  -- ---- types

  -- what is no scalar has no kind
  first_or_none : (r : ℕ) → r < rows_of g.types
      → ((r < 3) × (kind_in g.types r ≡ r)) ⊎ ((3 ≤ r) × (kind_in g.types r ≡ NO_KIND))
  first_or_none r low = go (dec_lt r 3)
    where
      accepted : TypesAccepted g.types g.fields
      accepted = ok.questions.types

      go : Dec (r < 3) → ((r < 3) × (kind_in g.types r ≡ r)) ⊎ ((3 ≤ r) × (kind_in g.types r ≡ NO_KIND))
      go (yes h) =
          inl (h, scalar_row g.types g.fields accepted r low (omega (arith, three_rows accepted.version)))
      go (no h) =
          inr (
            omega arith,
            later_row g.types g.fields accepted r low (omega (arith, few_rows accepted.version)),
          )

  -- single cells are those of the first rows
  pub single_first : (r : ℕ) → r < rows_of g.types → (version : ℕ)
      → is_single g.types r ≡ ltb r (scalar_rows version)
  single_first r low version = elim (first_or_none r low) [
    | inl h ↦ kind_single g.types r (λ e. absurd (omega (arith, h.0, h.1)))
        ∙ sym (lt-ltb r (scalar_rows version) (omega (arith, h.0, three_rows version)))
    | inr h ↦ no_single g.types r h.1
        ∙ sym (le-ltb r (scalar_rows version) (omega (arith, h.0, few_rows version)))
  ]

  -- so a cell is read by the row of its type
  pub kind_read : (r : ℕ) → r < rows_of g.types → (z : ℤ) → cell_of (kind_in g.types r) z ≡ cell_of r z
  kind_read r low z = elim (first_or_none r low) [
    | inl h ↦ rw h.1
    | inr h ↦ rw h.1 (no_scalar_cell NO_KIND z (omega arith) ∙ sym (no_scalar_cell r z h.0))
  ]

  -- "No size exceeds 4,096."
  pub size_low : (r : ℕ) → r < rows_of g.types → size_of g.types g.fields r ≤ 4096
  size_low r h = size_small g.types g.fields ok.types r h

  -- a type with a field is there
  field_there : (r n offset x : ℕ) → field_of g.types g.fields r n ≡ Some (field_at offset x) → r < rows_of g.types
  field_there r n offset x e = go (dec_lt r (rows_of g.types))
    where
      go : Dec (r < rows_of g.types) → r < rows_of g.types
      go (yes h) = h
      go (no h) =
          let other : (row_at g.types r).kind ≡ 4 → ⊥ =
          λ kind. absurd (h (row_there g.types r (omega arith))) in
          let none = planned_other g.types g.fields plan n r refl other in
          let same : None ≡ Some (field_at offset x) = sym none ∙ p.checked.field r n ∙ e in
          let z : ◌≡◌ {A = ℕ} 0 1 = cc in
          absurd (omega arith)

  -- where a field begins, and its type
  pub field_low : (r n offset x : ℕ) → field_of g.types g.fields r n ≡ Some (field_at offset x)
      → (offset ≤ 4096) × (x < rows_of g.types)
  field_low r n offset x e =
      let low = field_there r n offset x e in
      let (place, nth) = field_nth g.types g.fields r n offset x e in
      let inner = (field_layout g.types g.fields ok.types r n x low nth).within in (
        omega (arith, place, inner, layout_length g.types g.fields r, size_low r low),
        field_row g.types g.fields ok.types r n offset x low e,
      )

  -- an array's element type, and an element's offset
  pub element_typed : (r : ℕ) → (row_at g.types r).kind ≡ 3 → (row_at g.types r).a < rows_of g.types
  element_typed r kind =
      let low = row_there g.types r (omega arith) in
      element_row g.types g.fields ok.types r low kind

  pub element_low : (r i : ℕ) → (row_at g.types r).kind ≡ 3 → i < (row_at g.types r).b
      → i * size_of g.types g.fields (row_at g.types r).a ≤ 4096
  element_low r i kind h =
      let low = row_there g.types r (omega arith) in
      let inner = (element_layout g.types g.fields ok.types r i low kind h).within in
      omega (arith, inner, layout_length g.types g.fields r, size_low r low)

  -- ---- variables and procedures

  -- a variable's type
  pub variable_typed : (a : ℕ) → a < rows_of g.variables → (row_at g.variables a).a < rows_of g.types
  variable_typed a h = (ok.variable a h).typed

  -- the cells of variables below row a
  room_low : (k a : ℕ) → a ≤ rows_of g.variables
      → room_from g.types g.fields g.variables k (a - k) ≤ 1048576
  room_low k a h =
      let few = ok.counts.variables in
      let width = width_kept g.types g.fields g.variables ok.questions.types ok.questions.variables in
      let size = size_of g.types g.fields in
      let room = room_small size g.variables k (a - k) (λ j low high. width j (omega arith)) in
      omega arith

  -- where a variable begins
  pub place_low : (a : ℕ) → a < rows_of g.variables → place_of g a ≤ 1048579
  unfolding place_of place_in
  place_low a h =
      let first : ℕ =
      first_variable g.variables g.procedures (owner_of g.variables g.procedures a) in
      let whole : a - 0 ≡ a = omega arith in
      let globals = rw whole at (room_low 0 a (omega arith)) in
      either (is_global g.variables a)
      (omega arith)
      (omega (arith, room_low first a (omega arith)))

  -- the globals' cells
  pub globals_low : global_room g ≤ 1048576
  unfolding global_room
  globals_low =
      let few = ok.counts.variables in
      let types = ok.questions.types in
      let kept = globals_kept g.types g.fields g.variables types ok.questions.variables in
      omega (arith, kept, globals_within g.variables)

  -- every procedure's variables exist
  pub claims : Claims g.variables g.procedures
  claims = claims_kept g.variables g.procedures g.statements ok.questions.procedures

  -- a frame's cells
  pub frame_low : (q : ℕ) → q < rows_of g.procedures
      → frame_size g.types g.fields g.variables g.procedures q ≤ 1048579
  frame_low q h =
      let few = ok.counts.variables in
      let kept = frame_kept_lem g.types g.fields g.variables ok.questions.types ok.questions.variables
      g.procedures claims q h in
      omega (arith, kept, claims q h)

  -- a procedure's variables are there
  pub claimed_there : (q : ℕ) → q < rows_of g.procedures
      → first_variable g.variables g.procedures q
      + ((row_at g.procedures q).b + (row_at g.procedures q).c) ≤ rows_of g.variables
  claimed_there q h = (ok.procedures.row q h).room

  -- where its variable j begins
  pub place_in_lem : (q j : ℕ) → q < rows_of g.procedures → j < (row_at g.procedures q).b + (row_at g.procedures q).c
      → place_of g (first_variable g.variables g.procedures q + j)
      ≡ 3 + room_from g.types g.fields g.variables (first_variable g.variables g.procedures q) j
  unfolding claimed_by
  place_in_lem q j h l = claimed_place g ok q h j l

  -- ---- nodes and statements

  -- a guard's type is there
  pub guard_typed : (r : ℕ) → (row_at g.nodes r).kind ≡ 4 → (row_at g.nodes r).b < rows_of g.types
  guard_typed r kind =
      let here = row_there g.nodes r (omega arith) in
      (guard_is g.types g.variables g.nodes ok.questions.nodes r here kind).typed

  -- how many rows a table has
  pub types_few : rows_of g.types ≤ 64
  types_few = ok.counts.types

  pub nodes_few : rows_of g.nodes ≤ 2048
  nodes_few = ok.counts.nodes

  pub statements_few : rows_of g.statements ≤ 1024
  statements_few = ok.counts.statements

  pub procedures_some : 1 ≤ rows_of g.procedures
  procedures_some = ok.counts.some_procedure

  pub procedures_few : rows_of g.procedures ≤ 64
  procedures_few = ok.counts.procedures

  pub variables_few : rows_of g.variables ≤ 256
  variables_few = ok.counts.variables

  -- "1 call procedure a": there is one
  pub call_there : (r : ℕ) → (row_at g.statements r).kind ≡ 1 → (row_at g.statements r).a < rows_of g.procedures
  call_there r kind =
      let here = row_there g.statements r (omega arith) in
      (call_is g.nodes g.procedures g.statements ok.questions.statements r here kind).procedure
