-- Laws of the search among variables as the code makes it, by their places.
use mathlib.Core.Path.{◌≡◌, refl, sym, ◌∙◌}
use mathlib.Core.Bool.{Bool, true, false}
use mathlib.Core.List.{List}
use Prim.Native.Nat.{ℕ, suc, ◌+◌, ◌-◌, ◌≤◌, ◌<◌}
use native.Mathlib.Omega.{arith}
use borrow.Author.Tests.{lt-leb, le-leb}
use lib.Dec.{leb}
use lib.ListN.{get_or}
use Rattle.prelude.specs.Choice.{◌also◌}
use Rattle.prelude.proofs.Choice.{also_left, also_right, also_pass}
use Rattle.prelude.specs.Bits.{bit_of}
use Rattle.image.specs.declared.Row.{Row}
use Rattle.image.specs.Rows.{row_at, rows_of}
use Rattle.shapes.specs.Sizes.{size_of}
use Rattle.places.specs.Places.{room_from}
use Rattle.places.proofs.Rooms.{room_more}
use Rattle.checker.proofs.Accepted.{AcceptedTables}
use Rattle.semantics.specs.Layout.{Program, place_of}
use Rattle.objects.specs.Begins.{begins_at}
use Rattle.referents.specs.Reaching.{Placed, Reached, Firsts, Ahead, in_variable, in_places, left_places}
use Rattle.referents.proofs.Variables.{search_none, left_start, left_below, left_here, left_next, left_end}
use Rattle.referents.proofs.Frames.{ends_there}

module _ (g : Program) (w k n lead at : ℕ) (placed : Placed g k n lead) where
  -- what is left to be searched from row j on
  abbrev left : ℕ → Bool
  left = left_places g w k n lead at

  place_is : {j : ℕ} → k ≤ j → j < k + n
      → place_of g j ≡ lead + room_from g.types g.fields g.variables k (j - k)
  place_is {j} least more =
      let row : k + (j - k) ≡ j = omega arith in
      rw row at (placed (j - k) (omega arith))

  pub scan_start : AcceptedTables g.types g.fields g.variables g.procedures g.nodes g.statements
      → k + n ≤ rows_of g.variables → {j : ℕ} → Reached g k n at j → in_places g w k n lead at ≡ left j
  scan_start ok there {j} r =
      left_start _ _ _ k n lead at j (ends_there g ok w k n there) r.least r.most
      λ h.
      let most = r.most in
      let more = r.some (omega arith) in
      let below = r.before h in
      omega (arith, place_is r.least more)

  pub scan_end : {j : ℕ} → k + n ≤ j → left j ≡ false
  scan_end {j} done = left_end _ _ _ k n lead at j done

  module _ {j place : ℕ} (least : k ≤ j) (more : j < k + n) (is : place ≡ place_of g j) where
    pub scan_below : at < place → left j ≡ false
    scan_below h = left_below _ _ _ k n lead at j (omega (arith, is, place_is least more))

    -- the row behind does not begin below
    pub place_next : j + 1 < k + n → place ≤ place_of g (j + 1)
    place_next next =
        let one : suc (j - k) ≡ j + 1 - k = omega arith in
        let room = rw one at (room_more (size_of g.types g.fields) g.variables k (j - k)) in
        omega (arith, is, place_is least more, place_is {j = j + 1} (omega arith) next, room)

    module _ (reaches : place ≤ at) {x : Bool} (answer : x ≡ in_variable g w j (at - place)) where
      inside_is : x ≡ in_variable g w j (at - (lead + room_from g.types g.fields g.variables k (j - k)))
      inside_is = rw (← place_is least more, ← is) answer

      pub scan_here : x ≡ true → left j ≡ true
      scan_here e =
          left_here _ _ _ k n lead at j more (omega (arith, is, place_is least more)) (sym inside_is ∙ e)

      pub scan_next : x ≡ false → left j ≡ left (j + 1)
      scan_next e =
          left_next _ _ _ k n lead at j more (omega (arith, is, place_is least more)) least (sym inside_is ∙ e)

      -- one begins behind this row; where none does, the row decides
      pub scan_behind : left (j + 1) ≡ true → left j ≡ true
      scan_behind h = go x refl
        where
          go : (y : Bool) → x ≡ y → left j ≡ true
          go true e = scan_here e
          go false e = scan_next e ∙ h

      pub scan_last : left (j + 1) ≡ false → x ≡ left j
      scan_last h = go x refl
        where
          go : (y : Bool) → x ≡ y → x ≡ left j
          go true e = e ∙ sym (scan_here e)
          go false e = e ∙ sym (scan_next e ∙ h)

-- no variables
pub scan_none : (g : Program) (w k : ℕ) {n : ℕ} (lead at : ℕ) → n ≡ 0 → false ≡ in_places g w k n lead at
scan_none g w k lead at none = rw none (sym (also_right _ (search_none _ _ _ k (at - lead))))

-- ---- those that begin at the address

-- behind the row that is reached
pub ahead_reached : {g : Program} {k n lead at j : ℕ} → Placed g k n lead → Reached g k n at j
    → Ahead g k n lead at (j + 1) (k + n)
ahead_reached placed r = record {
  least = let l = r.least in omega arith;
  last = refl;
  placed = placed;
  above = r.after;
}

module _ {g : Program} (w : ℕ) {i n lead at j e : ℕ} (a : Ahead g i n lead at j e) where
  ahead_more : j < e → j < i + n
  ahead_more h = omega (arith, a.last)

  pub ahead_end : e ≤ j → false ≡ left_places g w i n lead at j
  ahead_end h = sym (scan_end g w i n lead at a.placed (omega (arith, a.last)))

  module _ (more : j < e) {place : ℕ} (is : place ≡ place_of g j) where
    pub ahead_below : at < place → false ≡ left_places g w i n lead at j
    ahead_below h = sym (scan_below g w i n lead at a.placed a.least (ahead_more more) is h)

    pub ahead_next : Ahead g i n lead at (j + 1) e
    ahead_next = record {
      least = let l = a.least in omega arith;
      last = a.last;
      placed = a.placed;
      above = λ h.
          let l = a.above more in
          let next = place_next g w i n lead at a.placed a.least (ahead_more more) is (omega (arith, a.last)) in
          omega (arith, is, next);
    }

    module _ (reaches : place ≤ at) (starts : List ℕ) (firsts : Firsts g w starts)
        (typed : (row_at g.variables j).a < rows_of g.types) {row : Row} (this : row ≡ row_at g.variables j)
        {x : Bool} (answer : x ≡ (leb row.kind 2 also bit_of (get_or starts row.a 0) w)) where
      start_is : x ≡ in_variable g w j (at - place)
      start_is =
          let l = a.above more in
          let none : at - place ≡ 0 = omega (arith, is) in
          rw (none, ← firsts (row_at g.variables j).a typed, ← this) answer

      pub ahead_here : x ≡ true → true ≡ left_places g w i n lead at j
      ahead_here e =
          sym (scan_here g w i n lead at a.placed a.least (ahead_more more) is reaches start_is e)

      pub ahead_on : x ≡ false → left_places g w i n lead at j ≡ left_places g w i n lead at (j + 1)
      ahead_on e = scan_next g w i n lead at a.placed a.least (ahead_more more) is reaches start_is e

-- ---- one variable

module _ (g : Program) (w k o : ℕ) {row : Row} (is : row ≡ row_at g.variables k) where
  pub variable_other : 2 < row.kind → false ≡ in_variable g w k o
  variable_other h = sym (also_left _ (lt-leb (row_at g.variables k).kind 2 (rw is at h)))

  pub variable_plain : row.kind ≤ 2 → {x : Bool} → x ≡ begins_at g.types g.fields w row.a o
      → x ≡ in_variable g w k o
  variable_plain h e =
      (rw is at e) ∙ sym (also_pass _ (le-leb (row_at g.variables k).kind 2 (rw is at h)))

-- it is there, and its type is
pub variable_there : {j e n : ℕ} → e ≤ n → j < e → j < n
variable_there a b = omega arith

pub variable_low : (v : List ℕ) (k : ℕ) {n : ℕ} {row : Row} → row ≡ row_at v k → (row_at v k).a < n → row.a < n
variable_low v k is h = rw is h
