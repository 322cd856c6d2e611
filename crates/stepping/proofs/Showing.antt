-- Laws of what the code of a step shows: one for each way in which a definition goes on or ends.
use mathlib.Core.Path.{◌≡◌, refl, sym, subst}
use mathlib.Core.Bool.{Bool, true, false}
use mathlib.Core.List.{List, [], ◌∷◌}
use mathlib.Core.Logic.{inl, inr}
use Prim.Native.Nat.{ℕ, ◌+◌, ◌≤◌, ◌<◌}
use native.Mathlib.Omega.{arith}
use borrow.Author.Tests.{le-leb, lt-leb, ltb-true}
use denote.Enum.Declared.{tag_of}
use types.Run.{OneOf}
use lib.Dec.{ltb}
use lib.IntN.{ℤ, pos}
use lib.ListN.{length, get_or}
use mir.Syntax.{w32}
use mir.Val.{SFits}
use Rattle.prelude.specs.Choice.{choose}
use Rattle.prelude.proofs.Choice.{choose_yes, choose_no, choose_cases}
use Rattle.values.specs.declared.Value.{Value}
use Rattle.values.specs.declared.Value.TheVariants as Vs
use Rattle.values.specs.Values.{number_of, as_boolean, as_integer, Answer}
use Rattle.values.specs.contracts.Value.{the_type as value_type}
use Rattle.values.specs.declared.Stop.TheVariants as St
use Rattle.values.proofs.Cases.{is_boolean, is_integer_lem, no_boolean, no_integer}
use Rattle.values.proofs.Numbers.{fits_integer}
use Rattle.semantics.specs.declared.Registers.{Registers}
use Rattle.semantics.specs.declared.Place.{Place}
use Rattle.semantics.specs.Memory.{Memory, bare, mark_at, part_at, overwrite, Mark}
use Rattle.semantics.specs.Stepping.{State, Next, Next.goes, Next.stuck, on_place, on_value}
use Rattle.semantics.specs.Stepping.{on_mark, go_to, following, with_cells, written, on_part, input_at, after_read}
use Rattle.cells.proofs.Overwriting.{overwrite_length}
use Rattle.finding.specs.Missed.{lost}
use Rattle.calling.specs.declared.Step.{Step}
use Rattle.calling.specs.declared.Step.TheVariants as Steps
use Rattle.calling.specs.Showing.{state_of, Stands, Shows, Shows.shows_goes, Shows.shows_trap, Shows.shows_stuck}
use Rattle.calling.specs.Passing.{Passing, ended_by}
use Rattle.stepping.specs.Counting.{at_row}
use Rattle.std.specs.Prelude.{Ok, Err, Some, None}
use Rattle.semantics.specs.Finding.{Found}

-- ---- what a step comes to, in other words

module _ {s : State ℤ} {r : Step} {cells output : List ℤ} where
  pub shows_by : {n n' : Next ℤ} → n ≡ n' → Shows s n' r cells output → Shows s n r cells output
  shows_by e h = subst (λ (n : Next ℤ). Shows s n r cells output) (sym e) h

  -- a test's branch
  pub shows_yes : {b : Bool} {x : Next ℤ} (y : Next ℤ) → b ≡ true → Shows s x r cells output
      → Shows s (choose b x y) r cells output
  shows_yes {b} {x} y e h = shows_by (choose_yes b x y e) h

  pub shows_no : {b : Bool} (x : Next ℤ) {y : Next ℤ} → b ≡ false → Shows s y r cells output
      → Shows s (choose b x y) r cells output
  shows_no {b} x {y} e h = shows_by (choose_no b x y e) h

  -- on with an operand's object
  pub shows_place : {found x : Found} {place : Place} (next : Place → Next ℤ) → found ≡ x → found ≡ Ok place
      → Shows s (next place) r cells output → Shows s (on_place s x next) r cells output
  unfolding on_place
  shows_place next e t h = rw (← e, t) h

  -- with its value
  pub shows_value : {answer x : Answer} {v : Value} (next : Value → Next ℤ) → answer ≡ x → answer ≡ Ok v
      → Shows s (next v) r cells output → Shows s (on_value s x next) r cells output
  unfolding on_value
  shows_value next e t h = rw (← e, t) h

  -- with an INTEGER's number
  pub shows_integer : {v : Value} {z : ℤ} (next : ℤ → Next ℤ) → v ≡ Vs.Int z
      → Shows s (next z) r cells output → Shows s (as_integer (stuck s) v next) r cells output
  shows_integer next t h = shows_by (is_integer_lem _ next t) h

  -- with a BOOLEAN's
  pub shows_boolean : {v : Value} {b : Bool} (next : Bool → Next ℤ) → v ≡ Vs.Bool b
      → Shows s (next b) r cells output → Shows s (as_boolean (stuck s) v next) r cells output
  shows_boolean next t h = shows_by (is_boolean _ next t) h

  -- with a link's
  pub shows_mark : {mark x : Mark} {n : ℕ} (next : ℕ → Next ℤ) → mark ≡ x → mark ≡ Some n
      → Shows s (next n) r cells output → Shows s (on_mark s x next) r cells output
  unfolding on_mark
  shows_mark next e t h = rw (← e, t) h

  -- with cells read below top
  pub shows_part : (a n : ℕ) (next : List ℤ → Next ℤ) → a + n ≤ s.at.top
      → Shows s (next (part_at s.cells a n)) r cells output → Shows s (on_part s a n next) r cells output
  unfolding on_part
  shows_part a n next h k = shows_yes _ (le-leb (a + n) s.at.top h) k

-- ---- "A trap in an operand ends the step with that trap."

lost_place_lem : (s : State ℤ) (found : Found) (next : Place → Next ℤ) → ((p : Place) → found ≡ Ok p → ⊥)
    → Shows s (on_place s found next) (ended_by (lost found)) s.cells s.output
unfolding on_place lost ended_by
lost_place_lem s (Ok place) next t = absurd (t place refl)
lost_place_lem s (Err (St.Trap u)) next t = shows_trap refl refl
lost_place_lem s (Err St.Stuck) next t = shows_stuck refl refl

lost_value_lem : (s : State ℤ) (answer : Answer) (next : Value → Next ℤ) → ((v : Value) → answer ≡ Ok v → ⊥)
    → Shows s (on_value s answer next) (ended_by (lost answer)) s.cells s.output
unfolding on_value lost ended_by
lost_value_lem s (Ok v) next t = absurd (t v refl)
lost_value_lem s (Err (St.Trap u)) next t = shows_trap refl refl
lost_value_lem s (Err St.Stuck) next t = shows_stuck refl refl

-- as the code has it: the answer found, what it loses, and how that ends
module _ {s : State ℤ} {p : Passing} {r : Step} where
  pub shows_lost_place : {found x : Found} (next : Place → Next ℤ) → found ≡ x
      → ((p : Place) → found ≡ Ok p → ⊥) → p ≡ lost found → r ≡ ended_by p
      → Shows s (on_place s x next) r s.cells s.output
  shows_lost_place {found} next e t why ended = rw (ended, why, ← e) (lost_place_lem s found next t)

  pub shows_lost_value : {answer x : Answer} (next : Value → Next ℤ) → answer ≡ x
      → ((v : Value) → answer ≡ Ok v → ⊥) → p ≡ lost answer → r ≡ ended_by p
      → Shows s (on_value s x next) r s.cells s.output
  shows_lost_value {answer} next e t why ended = rw (ended, why, ← e) (lost_value_lem s answer next t)

-- ---- no rule applies

module _ {s : State ℤ} where
  -- a value that is no INTEGER
  pub shows_no_integer : (v : Value) (next : ℤ → Next ℤ) → OneOf (0 ∷ 2 ∷ []) (tag_of value_type v)
      → Shows s (as_integer (stuck s) v next) Steps.Stuck s.cells s.output
  shows_no_integer v next t = shows_by (no_integer _ v next t) (shows_stuck refl refl)

  -- no BOOLEAN
  pub shows_no_boolean : (v : Value) (next : Bool → Next ℤ) → OneOf (1 ∷ 2 ∷ []) (tag_of value_type v)
      → Shows s (as_boolean (stuck s) v next) Steps.Stuck s.cells s.output
  shows_no_boolean v next t = shows_by (no_boolean _ v next t) (shows_stuck refl refl)

  -- a cell that holds no link
  pub shows_no_mark : {mark x : Mark} (next : ℕ → Next ℤ) → mark ≡ x → mark ≡ None
      → Shows s (on_mark s x next) Steps.Stuck s.cells s.output
  unfolding on_mark
  shows_no_mark next e t = rw (← e, t) (shows_stuck refl refl)

  -- cells that do not lie below top
  pub shows_no_part : (a n : ℕ) (next : List ℤ → Next ℤ) → s.at.top < a + n
      → Shows s (on_part s a n next) Steps.Stuck s.cells s.output
  unfolding on_part
  shows_no_part a n next h = shows_no _ (lt-leb (a + n) s.at.top h) (shows_stuck refl refl)

no_number : {X : Type 0} {n : ℕ} → None ≡ Some n → X
no_number e = let z : ◌≡◌ {A = ℕ} 0 1 = cc in absurd (omega arith)

-- a cell that holds one lies below top
pub mark_below : {X : Type 0} (m : Memory X) (top : ℕ) (cells : List X) (kind a : ℕ) {n : ℕ}
    → mark_at m top cells kind a ≡ Some n → a < top
unfolding mark_at
mark_below m top cells kind a e = elim (choose_cases (ltb a top) e) [
  | inl h ↦ ltb-true a top h.0
  | inr h ↦ no_number h.1
]

-- ---- the next state

-- at another row
pub shows_row : {s q : Registers} {old cells output : List ℤ} {row : ℕ} {u : State ℤ}
    → u ≡ go_to (state_of s cells output) row → q ≡ at_row s row
    → row ≤ 65536 → s.base ≤ 65536 → s.top ≤ length cells
    → Shows (state_of s old output) (goes u) (Steps.Goes q) cells output
unfolding go_to at_row
shows_row {s} {row = row} e is low base top = rw (e, is) (shows_goes {q = at_row s row} refl (record {
  row = low;
  base = base;
  top = top;
}))

-- cells written below top, and cells that do not lie there
module _ (s : State ℤ) (a : ℕ) (new : List ℤ) where
  pub written_is : a + length new ≤ s.at.top
      → written s a new ≡ goes (following (with_cells s (overwrite s.cells a new)))
  unfolding written
  written_is h = choose_yes _ _ _ (le-leb (a + length new) s.at.top h)

  pub not_written : s.at.top < a + length new → written s a new ≡ stuck s
  unfolding written
  not_written h = choose_no _ _ _ (lt-leb (a + length new) s.at.top h)

-- written, at the next row
pub shows_written : {s q : Registers} {old cells output : List ℤ} (a : ℕ) (new : List ℤ) → Stands s old
    → s.row < 65536 → a + length new ≤ s.top → cells ≡ overwrite old a new → q ≡ at_row s (s.row + 1)
    → Shows (state_of s old output) (written (state_of s old output) a new) (Steps.Goes q) cells output
unfolding following with_cells
shows_written {s} {old = old} {output = output} a new stands low within is next =
    let kept = overwrite_length old new a (omega (arith, stands.top)) in
    shows_by (written_is (state_of s old output) a new within)
    (rw is (shows_row refl next (omega arith) stands.base (rw kept stands.top)))

-- ---- an input

-- one that is lent is the number itself
input_is : (input : List ℤ) (i : ℕ) → SFits w32 (get_or input i (pos 0))
    → bare.put (Vs.Int (input_at input i)) ≡ get_or input i (pos 0)
unfolding bare number_of input_at
input_is input i fits = choose_yes _ _ _ (fits_integer (get_or input i (pos 0)) fits)

abbrev after_input : Registers → Registers
after_input s = record { row = s.row + 1; base = s.base; top = s.top; read = s.read + 1; written = s.written }

-- read into a cell below top
pub shows_read : {s : Registers} {old cells output : List ℤ} (input : List ℤ) (a : ℕ) → Stands s old
    → s.row < 65536 → a < s.top → SFits w32 (get_or input s.read (pos 0))
    → cells ≡ overwrite old a (get_or input s.read (pos 0) ∷ [])
    → Shows (state_of s old output)
    (after_read (written (state_of s old output) a (bare.put (Vs.Int (input_at input s.read)) ∷ [])))
    (Steps.Goes (after_input s)) cells output
unfolding after_read following go_to with_cells
shows_read {s} {old} {cells} {output} input a stands low below fits is =
    let new = get_or input s.read (pos 0) ∷ [] in
    let kept = overwrite_length old new a (omega (arith, stands.top)) in
    rw (input_is input s.read fits, written_is (state_of s old output) a new (omega arith), is)
    (shows_goes {q = after_input s} {cells = overwrite old a new} {output = output} refl (record {
      row = omega arith;
      base = stands.base;
      top = rw kept stands.top;
    }))
