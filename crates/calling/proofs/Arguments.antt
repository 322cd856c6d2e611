-- Laws of arguments and of what passing them comes to.
use mathlib.Core.Path.{◌≡◌, refl, ◌∙◌, ap}
use mathlib.Core.Bool.{true, false}
use mathlib.Core.List.{List, [], ◌∷◌}
use Prim.Native.Nat.{ℕ, zero, suc, ◌+◌, ◌-◌, ◌≤◌, ◌<◌}
use native.Mathlib.Omega.{arith}
use borrow.Author.Tests.{eq-eqb, ne_eqb, le-leb, lt-leb}
use lib.IntN.{ℤ, pos}
use lib.ListN.{length}
use Rattle.prelude.proofs.Choice.{choose_yes, choose_no}
use Rattle.image.specs.declared.Row.{Row}
use Rattle.image.specs.Rows.{row_at, rows_of}
use Rattle.shapes.specs.Forms.{is_single}
use Rattle.shapes.specs.Sizes.{size_of}
use Rattle.shapes.proofs.Singles.{single_size}
use Rattle.places.specs.Places.{width_by, width_of}
use Rattle.values.specs.declared.Value.{Value}
use Rattle.values.specs.declared.Stop.TheVariants as St
use Rattle.semantics.specs.declared.Place.{Place}
use Rattle.semantics.specs.declared.Registers.{Registers}
use Rattle.semantics.specs.Memory.{bare, part_at, overwrite}
use Rattle.semantics.specs.Layout.{Program, place_of}
use Rattle.semantics.specs.Finding.{find_of, eval_of, Found}
use Rattle.semantics.specs.Stepping.{State, Next, Next.trapped, Next.stuck, on_place, on_value, on_part, with_cells}
use Rattle.semantics.specs.Stepping.{argument_cells, passed}
use Rattle.semantics.specs.Running.{program_of}
use Rattle.semantics.proofs.Demand3.{program_accepted}
use Rattle.access.specs.Ready.{Planned}
use Rattle.access.proofs.Bounds.{variable_typed}
use Rattle.calling.specs.Showing.{state_of, Stands}
use Rattle.finding.specs.Missed.{lost}
use Rattle.calling.specs.Passing.{Passing, framed, passed_one, Roomy}
use Rattle.calling.specs.Passing.{Passes, Passes.passes_done, Passes.passes_trap, Passes.passes_stuck}
use Rattle.std.specs.Prelude.{Ok, Err}
use Rattle.values.specs.Values.{Answer}

-- ---- other cells, as many

-- from there steps can be taken too
pub stands_kept : {s : Registers} {old cells : List ℤ} → Stands s old → length cells ≡ length old → Stands s cells
stands_kept stands e = record {
  row = stands.row;
  base = stands.base;
  top = rw e stands.top;
  few = rw e stands.few;
}

-- there is room in them too
pub roomy_kept : {image : List ℕ} {top a : ℕ} {old cells : List ℤ} → Roomy image top a old → length cells ≡ length old
    → Roomy image top a cells
roomy_kept roomy e = record { there = roomy.there; room = rw e roomy.room }

-- ---- what an argument comes to

module _ (s : State ℤ) where
  -- an operand that is no object, or no value: no cell is written
  pub place_lost : (x : Found) (next : (State ℤ → Next ℤ) → Place → Next ℤ) → ((p : Place) → x ≡ Ok p → ⊥)
      → Passes s (λ after. on_place s x (next after)) (lost x) s.cells
  unfolding lost on_place with_cells
  place_lost (Ok place) next h = absurd (h place refl)
  place_lost (Err (St.Trap t)) next h = passes_trap (λ after. refl)
  place_lost (Err St.Stuck) next h = passes_stuck (λ after. refl)

  pub value_lost : (x : Answer) (next : (State ℤ → Next ℤ) → Value → Next ℤ) → ((v : Value) → x ≡ Ok v → ⊥)
      → Passes s (λ after. on_value s x (next after)) (lost x) s.cells
  unfolding lost on_value with_cells
  value_lost (Ok v) next h = absurd (h v refl)
  value_lost (Err (St.Trap t)) next h = passes_trap (λ after. refl)
  value_lost (Err St.Stuck) next h = passes_stuck (λ after. refl)

  -- an object, or a value, whose cells are written
  pub place_written : {x : Found} {object : Place} (place : ℕ) (new : Place → List ℤ) {cells : List ℤ}
      → x ≡ Ok object → cells ≡ overwrite s.cells (s.at.top + place) (new object)
      → Passes s (λ after. on_place s x (λ o. framed s place after (new o))) (Ok tt) cells
  unfolding on_place framed
  place_written place new {cells} found e = passes_done {cells = cells} (λ after. rw (found, e))

  pub value_written : {x : Answer} {v : Value} (place : ℕ) (new : Value → List ℤ) {cells : List ℤ}
      → x ≡ Ok v → cells ≡ overwrite s.cells (s.at.top + place) (new v)
      → Passes s (λ after. on_value s x (λ w. framed s place after (new w))) (Ok tt) cells
  unfolding on_value framed
  value_written place new {cells} found e = passes_done {cells = cells} (λ after. rw (found, e))

  -- an object whose cells are copied, or do not end below top
  pub place_copied : {x : Found} {object : Place} (place size : ℕ) {cells : List ℤ} → x ≡ Ok object
      → object.address + size ≤ s.at.top
      → cells ≡ overwrite s.cells (s.at.top + place) (part_at s.cells object.address size)
      → Passes s (λ after. on_place s x (λ o. on_part s o.address size (framed s place after))) (Ok tt) cells
  unfolding on_place on_part framed
  place_copied place size {cells} found low e =
      passes_done {cells = cells} (λ after. rw (found, e) (choose_yes _ _ _ (le-leb _ _ low)))

  pub place_beyond : {x : Found} {object : Place} (place size : ℕ) → x ≡ Ok object
      → s.at.top < object.address + size
      → Passes s (λ after. on_place s x (λ o. on_part s o.address size (framed s place after))) (Err St.Stuck) s.cells
  unfolding on_place on_part with_cells
  place_beyond place size found high =
      passes_stuck {cells = s.cells} (λ after. rw found (choose_no _ _ _ (lt-leb _ _ high)))

-- what comes to the same
passes_as : {s : State ℤ} {x y : (State ℤ → Next ℤ) → Next ℤ} {r : Passing} {cells : List ℤ}
    → ((after : State ℤ → Next ℤ) → y after ≡ x after) → Passes s x r cells → Passes s y r cells
passes_as e (passes_done h) = passes_done (λ after. e after ∙ h after)
passes_as e (passes_trap h) = passes_trap (λ after. e after ∙ h after)
passes_as e (passes_stuck h) = passes_stuck (λ after. e after ∙ h after)

-- ---- one argument, by its parameter's row

module _ {image : List ℕ} {top a : ℕ} {cells : List ℤ} (roomy : Roomy image top a cells) {row : Row} {place : ℕ}
    (is : row ≡ row_at (program_of image).variables a) (at : place ≡ place_of (program_of image) a) where
  abbrev g : Program
  g = program_of image

  abbrev width : ℕ
  width = width_of g.types g.fields g.variables a

  -- room for as many cells as its width
  has_room : {n : ℕ} → width ≡ n → top + (place + n) ≤ length cells
  has_room e = rw (at, ← e) roomy.room

  -- room for an object's address and dynamic type
  pub object_room : row.kind ≡ 3 → top + (place + 2) ≤ length cells
  unfolding width_by
  object_room kind = has_room (rw (← is) (choose_yes _ _ _ (eq-eqb _ _ kind)))

  -- room for the cells of a type
  pub cells_room : (row.kind ≡ 3 → ⊥) → top + (place + size_of g.types g.fields row.a) ≤ length cells
  unfolding width_by
  cells_room other = has_room (rw (← is) (choose_no _ _ _ (ne_eqb _ _ other)))

  module _ {plan : List ℕ} (planned : Planned image plan) where
    -- its type is there
    pub type_there : row.a < rows_of g.types
    type_there = rw is (variable_typed planned a roomy.there)

    -- room for a single cell
    pub value_room : (row.kind ≡ 3 → ⊥) → is_single g.types row.a ≡ true → top + (place + 1) ≤ length cells
    value_room other single =
        let kept = (program_accepted image planned.checked.accepted).types in
        rw (single_size g.types g.fields kept row.a single) at (cells_room other)

module _ (g : Program) (k : ℕ) (s : State ℤ) where
  abbrev found : Found
  found = find_of bare g s.at.base s.at.top s.cells k

  abbrev value : Answer
  value = eval_of bare g s.at.base s.at.top s.cells k

  module _ (a : ℕ) {row : Row} {place : ℕ} (is : row ≡ row_at g.variables a) (at : place ≡ place_of g a)
      {r : Passing} {cells : List ℤ} where
    -- an object, a single cell, and other cells
    pub as_object : row.kind ≡ 3 → Passes s
        (λ after. on_place s found (λ o. framed s place after (pos o.address ∷ pos o.dynamic ∷ []))) r cells
        → Passes s (passed_one bare g k a s) r cells
    unfolding passed_one argument_cells bare
    as_object kind h = passes_as (λ after. rw (← is, ← at) (choose_yes _ _ _ (eq-eqb _ _ kind))) h

    pub as_value : (row.kind ≡ 3 → ⊥) → is_single g.types row.a ≡ true
        → Passes s (λ after. on_value s value (λ v. framed s place after (bare.put v ∷ []))) r cells
        → Passes s (passed_one bare g k a s) r cells
    unfolding passed_one argument_cells
    as_value other single h =
        passes_as
        (λ after. rw (← is, ← at) (choose_no _ _ _ (ne_eqb _ _ other) ∙ choose_yes _ _ _ single)) h

    pub as_cells : (row.kind ≡ 3 → ⊥) → is_single g.types row.a ≡ false → Passes s (λ after.
        on_place s found (λ o. on_part s o.address (size_of g.types g.fields row.a) (framed s place after)))
        r cells → Passes s (passed_one bare g k a s) r cells
    unfolding passed_one argument_cells
    as_cells other structured h =
        passes_as
        (λ after. rw (← is, ← at) (choose_no _ _ _ (ne_eqb _ _ other) ∙ choose_no _ _ _ structured)) h

-- ---- one argument after the other

-- an argument that is passed
pub passed_on : {s : State ℤ} {x : (State ℤ → Next ℤ) → Next ℤ} {cells : List ℤ} → Passes s x (Ok tt) cells
    → (after : State ℤ → Next ℤ) → x after ≡ after (with_cells s cells)
passed_on (passes_done h) after = h after

-- an argument that is not passed ends all
passed_off : {s u : State ℤ} {x y : (State ℤ → Next ℤ) → Next ℤ} {r : Passing} {cells : List ℤ}
    (next : (State ℤ → Next ℤ) → State ℤ → Next ℤ) → ((u : Unit {0}) → r ≡ Ok u → ⊥)
    → with_cells s cells ≡ with_cells u cells → ((after : State ℤ → Next ℤ) → y after ≡ x (next after))
    → Passes s x r cells → Passes u y r cells
passed_off next h same e (passes_done k) = absurd (h tt refl)
passed_off next h same e (passes_trap {t = t} k) =
    passes_trap (λ after. e after ∙ k (next after) ∙ ap (λ (v : State ℤ). trapped t (pos 0) v) same)
passed_off next h same e (passes_stuck k) = passes_stuck (λ after. e after ∙ k (next after) ∙ ap stuck same)

-- the first of n arguments
passed_first : (g : Program) (k a n : ℕ) (s : State ℤ) (after : State ℤ → Next ℤ) → 0 < n
    → passed bare g k a n s after
    ≡ passed_one bare g k a s (λ u. passed bare g (k + 1) (a + 1) (n - 1) u after)
unfolding passed passed_one framed
passed_first g k a zero s after h = absurd (omega arith)
passed_first g k a (suc n) s after h = let less : suc n - 1 ≡ n = omega arith in rw less

-- of n arguments j are passed: the cells that they left, and the others, still to be passed
pub record Along (g : Program) (k a n : ℕ) (s : Registers) (old cells : List ℤ) (j : ℕ) : Type 0 where
  pub few : j ≤ n
  pub kept : length cells ≡ length old
  pub rest : (output : List ℤ) (after : State ℤ → Next ℤ) → passed bare g k a n (state_of s old output) after
      ≡ passed bare g (k + j) (a + j) (n - j) (state_of s cells output) after

module _ {g : Program} {k a n : ℕ} {s : Registers} {old : List ℤ} where
  -- none is passed yet
  pub along_none : Along g k a n s old old 0
  along_none =
      let row : k + 0 ≡ k = omega arith in
      let variable : a + 0 ≡ a = omega arith in
      let count : n - 0 ≡ n = omega arith in
      record { few = omega arith; kept = refl; rest = λ output after. rw (row, variable, count) }

  module _ {cells : List ℤ} {j : ℕ} (along : Along g k a n s old cells j) where
    abbrev others : (State ℤ → Next ℤ) → State ℤ → Next ℤ
    others after u = passed bare g (k + j + 1) (a + j + 1) (n - j - 1) u after

    -- the next one, and then the others
    next_is : j < n → (output : List ℤ) (after : State ℤ → Next ℤ) → passed bare g k a n (state_of s old output) after
        ≡ passed_one bare g (k + j) (a + j) (state_of s cells output) (others after)
    next_is h output after =
        along.rest output after
        ∙ passed_first g (k + j) (a + j) (n - j) (state_of s cells output) after (omega arith)

    -- one more
    pub along_next : {new : List ℤ} → j < n → length new ≡ length cells → ((output : List ℤ)
        → Passes (state_of s cells output) (passed_one bare g (k + j) (a + j) (state_of s cells output)) (Ok tt) new)
        → Along g k a n s old new (j + 1)
    unfolding with_cells
    along_next h same one =
        let row : k + j + 1 ≡ k + (j + 1) = omega arith in
        let variable : a + j + 1 ≡ a + (j + 1) = omega arith in
        let count : n - j - 1 ≡ n - (j + 1) = omega arith in
        record {
          few = omega arith;
          kept = same ∙ along.kept;
          rest = λ output after.
              rw (row, variable, count) at (next_is h output after ∙ passed_on (one output) (others after));
        }

    -- the next one is not passed
    pub along_lost : {new : List ℤ} {r : Passing} → j < n → ((u : Unit {0}) → r ≡ Ok u → ⊥)
        → (output : List ℤ)
        → Passes (state_of s cells output) (passed_one bare g (k + j) (a + j) (state_of s cells output)) r new
        → Passes (state_of s old output) (passed bare g k a n (state_of s old output)) r new
    unfolding with_cells
    along_lost h lost output one = passed_off others lost refl (next_is h output) one

    -- all are passed
    pub along_end : n ≤ j → (output : List ℤ)
        → Passes (state_of s old output) (passed bare g k a n (state_of s old output)) (Ok tt) cells
    unfolding passed with_cells
    along_end h output =
        let none : n - j ≡ 0 = omega arith in
        passes_done (λ after. rw none at (along.rest output after))
