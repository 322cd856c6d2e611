-- Objects that are found lie low enough to add an offset, and are of types that there are.
use Rattle.relations.specs.declared.FieldAt.{FieldAt}
use Rattle.std.specs.Prelude.{Option, Ok, Err, Some, None}
use mathlib.Core.Path.{◌≡◌, refl, sym, subst, ◌∙◌}
use mathlib.Core.List.{List}
use Prim.Native.Nat.{ℕ, ◌+◌, ◌*◌, ◌≤◌, ◌<◌}
use native.Mathlib.Omega.{arith}
use native.Mathlib.Decide.{dec_lt}
use borrow.Author.Tests.{eqb-true, ltb-true}
use lib.Dec.{ltb, leb, eqb}
use lib.IntN.{ℤ, pos, negsuc}
use Rattle.prelude.specs.Choice.{choose}
use Rattle.prelude.proofs.Choice.{choose_has}
use Rattle.prelude.proofs.Rec.{rec_ind}
use Rattle.image.specs.declared.Row.{Row}
use Rattle.image.specs.Rows.{row_at, rows_of}
use Rattle.image.proofs.Bytes.{row_missing}
use Rattle.relations.specs.Extends.{extends}
use Rattle.relations.specs.Fields.{field_of}
use Rattle.values.specs.declared.Trap.{Trap}
use Rattle.values.specs.declared.Stop.TheVariants as St
use Rattle.values.proofs.Cases.{integer_has}
use Rattle.semantics.specs.declared.Place.{Place}
use Rattle.semantics.specs.Memory.{ADDRESS, TYPE, bare, mark_of, cell_at, mark_at, Mark}
use Rattle.semantics.specs.Layout.{Program, place_of}
use Rattle.semantics.specs.Finding.{reach, index, with_mark, object, parameter_place, variable_place, field_place}
use Rattle.semantics.specs.Finding.{element_place, array_place, guard_place, Meaning, no_meaning, designator, Found}
use Rattle.semantics.specs.Finding.{meaning_by, meaning_of, find_of}
use Rattle.semantics.specs.Running.{program_of}
use Rattle.access.specs.Ready.{Planned}
use Rattle.access.proofs.Bounds.{field_low, element_typed, element_low, variable_typed, place_low, guard_typed}
use Rattle.access.proofs.Bounds.{nodes_few}
use Rattle.finding.specs.Within.{Within}
use Rattle.finding.proofs.Laws.{find_other}
use Rattle.values.specs.Values.{Answer}

-- an object at n or below, of a type that there is; or none
data Low (image : List ℕ) (n : ℕ) : Found → Type 0 where
  low_at : {place : Place} → place.address ≤ n → place.declared < rows_of (program_of image).types
      → Low image n (Ok place)
  low_trap : {t : Trap} → Low image n (Err (St.Trap t))
  low_stuck : Low image n (Err St.Stuck)

-- ---- one law a combinator

module _ {image : List ℕ} where
  -- a bound may be raised
  low_more : {n m : ℕ} {found : Found} → Low image n found → n ≤ m → Low image m found
  low_more (low_at {place = place} l t) h = low_at {place = place} (omega arith) t
  low_more low_trap h = low_trap
  low_more low_stuck h = low_stuck

  -- an object whose dynamic type is its declared one
  object_low : {n address r : ℕ} → address ≤ n → r < rows_of (program_of image).types → Low image n (object address r)
  object_low {address = address} {r} l t =
      low_at {place = record { address = address; declared = r; dynamic = r }} l t

  -- what follows from an object that is low
  reach_low : {n m : ℕ} {found : Found} (next : Place → Found) → Low image n found
      → ((place : Place) → place.address ≤ n → place.declared < rows_of (program_of image).types
      → Low image m (next place)) → Low image m (reach found next)
  unfolding reach
  reach_low next (low_at {place = place} l t) h = h place l t
  reach_low next low_trap h = low_trap
  reach_low next low_stuck h = low_stuck

  -- what follows from an index
  index_low : {n : ℕ} (answer : Answer) (next : ℤ → Found) → ((z : ℤ) → Low image n (next z))
      → Low image n (index answer next)
  unfolding index
  index_low {n} (Ok v) next h = integer_has (Low image n) low_stuck v next h
  index_low (Err (St.Trap t)) next h = low_trap
  index_low (Err St.Stuck) next h = low_stuck

  -- of a type that there is
  low_typed : {n : ℕ} {place : Place} → Low image n (Ok place) → place.declared < rows_of (program_of image).types
  low_typed (low_at l t) = t

  -- low enough to add an offset
  within_low : {place : Place} → Low image 16777216 (Ok place) → Within image place
  within_low (low_at l t) = record { low = l; typed = t }

-- ---- marks

-- a number of 16 bits, or none
data Small : Mark → Type 0 where
  small_number : {n : ℕ} → n < 65536 → Small (Some n)
  small_nothing : Small None

-- a number read as a mark
mark_small : (z : ℤ) → Small (mark_of z)
unfolding mark_of
mark_small (pos n) =
    choose_has Small (ltb n 65536) (λ e. small_number (ltb-true n 65536 e)) (λ e. small_nothing)
mark_small (negsuc n) = small_nothing

-- a cell read as a mark
mark_at_small : (top : ℕ) (cells : List ℤ) (kind a : ℕ) → Small (mark_at bare top cells kind a)
unfolding mark_at bare
mark_at_small top cells kind a =
    choose_has Small (ltb a top) (λ e. mark_small (cell_at bare cells a)) (λ e. small_nothing)

-- what follows from a mark
mark_low : {image : List ℕ} {n : ℕ} {mark : Mark} (next : ℕ → Found) → Small mark
    → ((k : ℕ) → k < 65536 → Low image n (next k)) → Low image n (with_mark mark next)
unfolding with_mark
mark_low next (small_number {n = k} l) h = h k l
mark_low next small_nothing h = low_stuck

-- ---- designators

module _ {image plan : List ℕ} (p : Planned image plan) where
  abbrev g : Program
  g = program_of image

  module _ (base top : ℕ) (cells : List ℤ) (low : base ≤ 65536) where
    -- a VAR parameter's object: its address is a mark
    parameter_low : (a r : ℕ) → r < rows_of g.types → Low image 2097152 (parameter_place bare top cells a r)
    unfolding parameter_place
    parameter_low a r t =
        mark_low _ (mark_at_small top cells ADDRESS a) (λ address l.
        mark_low _ (mark_at_small top cells TYPE (a + 1)) (λ dynamic m.
        low_at {place = record { address = address; declared = r; dynamic = dynamic }} (omega arith) t))

    -- a variable: a global's place, one in a frame that begins low, or a parameter's object
    variable_low : (a : ℕ) → Low image 2097152 (variable_place bare g base top cells a (row_at g.variables a))
    unfolding variable_place choose
    variable_low a = go (dec_lt a (rows_of g.variables))
      where
        go : Dec (a < rows_of g.variables)
            → Low image 2097152 (variable_place bare g base top cells a (row_at g.variables a))
        go (yes l) =
            let t = variable_typed p a l in
            let h = place_low p a l in
            choose_has (Low image 2097152) (eqb (row_at g.variables a).kind 0)
            (λ e. object_low (omega arith) t)
            (λ e. choose_has (Low image 2097152) (leb (row_at g.variables a).kind 2)
            (λ f. object_low (omega arith) t)
            (λ f. choose_has (Low image 2097152) (eqb (row_at g.variables a).kind 3)
            (λ k. parameter_low (base + place_of g a) (row_at g.variables a).a t) (λ k. low_stuck)))
        go (no l) = rw (row_missing g.variables a (omega arith)) low_stuck

  -- a field lies at most 4,096 cells further
  field_place_low : (n r j : ℕ) (place : Place) → place.address ≤ n
      → Low image (n + 4096) (field_place place (field_of g.types g.fields r j))
  unfolding field_place
  field_place_low n r j place l = go (field_of g.types g.fields r j) refl
    where
      go : (answer : Option FieldAt) → field_of g.types g.fields r j ≡ answer
          → Low image (n + 4096) (field_place place answer)
      go None e = low_stuck
      go (Some x) e = let (h, t) = field_low p r j x.offset x.declared e in object_low (omega arith) t

  -- and so does an element
  element_place_low : (n : ℕ) (place : Place) → place.address ≤ n
      → (row_at g.types place.declared).kind ≡ 3 → (z : ℤ)
      → Low image (n + 4096) (element_place g place (row_at g.types place.declared) z)
  unfolding element_place
  element_place_low n place l k (pos i) =
      choose_has (Low image (n + 4096)) (ltb i (row_at g.types place.declared).b)
      (λ e. let h = element_low p place.declared i k (ltb-true i _ e) in
      object_low (omega arith) (element_typed p place.declared k))
      (λ e. low_trap)
  element_place_low n place l k (negsuc i) = low_trap

  -- whatever the index is
  array_place_low : (n : ℕ) (place : Place) → place.address ≤ n → (answer : Answer)
      → Low image (n + 4096) (array_place g place answer)
  unfolding array_place
  array_place_low n place l answer =
      choose_has (Low image (n + 4096)) (eqb (row_at g.types place.declared).kind 3)
      (λ e. index_low answer _ (element_place_low n place l (eqb-true _ 3 e)))
      (λ e. low_stuck)

  -- a guard keeps the address
  guard_place_low : (n b : ℕ) (place : Place) → place.address ≤ n → b < rows_of g.types
      → Low image n (guard_place g b place)
  unfolding guard_place
  guard_place_low n b place l t =
      choose_has (Low image n) (extends g.types place.dynamic b)
      (λ e. low_at {place = record { address = place.address; declared = b; dynamic = place.dynamic }} l t)
      (λ e. low_trap)

  -- ---- what was found is of a type that there is

  module _ {x : Found} {place : Place} (at : x ≡ Ok place) where
    typed_at : {n : ℕ} {y : Found} → x ≡ y → Low image n y → place.declared < rows_of g.types
    typed_at {n} e h = low_typed (subst (Low image n) (sym e ∙ at) h)

    pub variable_there : (base top : ℕ) (cells : List ℤ) → base ≤ 65536 → (a : ℕ)
        → x ≡ variable_place bare g base top cells a (row_at g.variables a) → place.declared < rows_of g.types
    variable_there base top cells low a e = typed_at e (variable_low base top cells low a)

    pub field_there : (whole : Place) (r j : ℕ) → x ≡ field_place whole (field_of g.types g.fields r j)
        → place.declared < rows_of g.types
    field_there whole r j e = typed_at e (field_place_low whole.address r j whole (omega arith))

    pub element_there : (whole : Place) {array : Row} (z : ℤ) → array ≡ row_at g.types whole.declared
        → array.kind ≡ 3 → x ≡ element_place g whole array z → place.declared < rows_of g.types
    element_there whole z is kind e =
        typed_at (rw is at e) (element_place_low whole.address whole (omega arith) (rw is at kind) z)

    pub guard_there : (whole : Place) {node : Row} (r : ℕ) → node ≡ row_at g.nodes r → node.kind ≡ 4
        → x ≡ guard_place g node.b whole → place.declared < rows_of g.types
    guard_there whole r is kind e =
        typed_at (rw is at e) (guard_place_low whole.address (row_at g.nodes r).b whole (omega arith)
        (guard_typed p r (rw is at kind)))

  -- ---- every node, from the low rows up

  module _ (base top : ℕ) (cells : List ℤ) (low : base ≤ 65536) where
    -- a node adds one offset, of 4,096 at most, to an object of a lower row's
    node_low : (n r : ℕ) (child : ℕ → Meaning) → 2097152 ≤ n → ((k : ℕ) → Low image n (child k).place)
        → Low image (n + 4096)
        (meaning_by bare g base top cells child (row_at g.nodes r).kind (row_at g.nodes r)).place
    unfolding meaning_by designator
    node_low n r child least h =
        let row : Row = row_at g.nodes r in
        let variable = variable_low base top cells low row.a in
        let P : Meaning → Type 0 = λ m. Low image (n + 4096) m.place in
        choose_has P (eqb row.kind 0) (λ e. low_stuck) (λ e.
        choose_has P (eqb row.kind 1) (λ e. low_more variable (omega arith)) (λ e.
        choose_has P (eqb row.kind 2) (λ e. reach_low _ (h row.a) (λ whole l t.
        field_place_low n whole.declared row.b whole l)) (λ e.
        choose_has P (eqb row.kind 3) (λ e. reach_low _ (h row.a) (λ whole l t.
        array_place_low n whole l (child row.b).value)) (λ e.
        choose_has P (eqb row.kind 4) (λ e. reach_low _ variable (λ whole l t.
        guard_place_low (n + 4096) row.b whole (omega arith) (guard_typed p r (eqb-true _ 4 e)))) (λ e.
        choose_has P (eqb row.kind 5) (λ e. low_stuck) (λ e.
        choose_has P (eqb row.kind 6) (λ e. low_stuck) (λ e.
        choose_has P (eqb row.kind 7) (λ e. low_stuck) (λ e.
        choose_has P (eqb row.kind 8) (λ e. low_more (h row.a) (omega arith)) (λ e. low_stuck)))))))))

    -- row r adds at most r + 1 offsets to a variable's place
    find_low : (r : ℕ) → Low image (2097152 + r * 4096 + 4096) (find_of bare g base top cells r)
    unfolding find_of meaning_of
    find_low r =
        rec_ind no_meaning
        (λ child k. meaning_by bare g base top cells child (row_at g.nodes k).kind (row_at g.nodes k))
        (λ k m. Low image (2097152 + k * 4096 + 4096) m.place)
        (λ k child less more. node_low (2097152 + k * 4096) k child (omega arith) (every k child less more)) r
      where
        every : (r : ℕ) (child : ℕ → Meaning)
            → ((k : ℕ) → k < r → Low image (2097152 + k * 4096 + 4096) (child k).place)
            → ((k : ℕ) → r ≤ k → child k ≡ no_meaning) → (k : ℕ) → Low image (2097152 + r * 4096) (child k).place
        every r child less more k = go (dec_lt k r)
          where
            go : Dec (k < r) → Low image (2097152 + r * 4096) (child k).place
            go (yes l) = low_more (less k l) (omega arith)
            go (no l) = rw (more k (omega arith)) low_stuck

-- a row past the table designates nothing
find_missing : (g : Program) (base top : ℕ) (cells : List ℤ) (r : ℕ) → rows_of g.nodes ≤ r
    → find_of bare g base top cells r ≡ Err St.Stuck
find_missing g base top cells r h =
    find_other bare g base top cells r _ (sym (row_missing g.nodes r h)) (λ e. absurd (omega arith))
    (λ e. absurd (omega arith)) (λ e. absurd (omega arith)) (λ e. absurd (omega arith)) (λ e. absurd (omega arith))

-- an object that was found, of a type that there is, and low enough
pub find_within : {image plan : List ℕ} → Planned image plan → {base : ℕ} → base ≤ 65536 → (top : ℕ)
    (cells : List ℤ) (r : ℕ) {place : Place} → find_of bare (program_of image) base top cells r ≡ Ok place
    → Within image place
find_within {image} p {base} low top cells r e =
    within_low (subst (Low image 16777216) e (go (dec_lt r (rows_of (program_of image).nodes))))
  where
    go : Dec (r < rows_of (program_of image).nodes)
        → Low image 16777216 (find_of bare (program_of image) base top cells r)
    go (yes l) = low_more (find_low p base top cells low r) (omega (arith, nodes_few p))
    go (no l) = rw (find_missing (program_of image) base top cells r (omega arith)) low_stuck
