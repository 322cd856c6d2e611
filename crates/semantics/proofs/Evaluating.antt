-- Finding and evaluating from a sound state: an object of the node's type, a value of its kind, or a trap; and what
-- cells below top read as.
use Rattle.relations.specs.Fields.{field_at, field_of}
use Rattle.std.specs.Prelude.{Option, Ok, Err, Some}
use mathlib.Core.Path.{◌≡◌, refl, sym, ◌∙◌, subst}
use mathlib.Core.Bool.{true}
use mathlib.Core.List.{[], List, ◌∷◌}
use mathlib.Core.Logic.{⊎_elim}
use Prim.Native.Nat.{ℕ, ◌+◌, ◌≤◌, ◌<◌}
use native.Mathlib.Omega.{arith}
use native.Mathlib.Decide.{dec_le}
use borrow.Author.Tests.{lt-ltb, le-leb, lt-leb, eq-eqb, ne_eqb, ltb-true}
use lib.Dec.{ltb}
use lib.IntN.{ℤ, pos, negsuc}
use lib.ListN.{take, length, length-append}
use Rattle.prelude.specs.Choice.{choose}
use Rattle.prelude.specs.Parts.{Part}
use Rattle.prelude.proofs.Choice.{choose_yes, choose_no, choose_has, also_yes}
use Rattle.prelude.proofs.Rec.{rec_ind}
use Rattle.image.specs.declared.Row.{Row}
use Rattle.image.specs.Rows.{Bytes, row_at, rows_of}
use Rattle.image.proofs.Bytes.{row_small}
use Rattle.image.proofs.Versions.{three_rows}
use Rattle.shapes.specs.Forms.{kind_in, is_single}
use Rattle.shapes.proofs.Singles.{kind_single, single_layout}
use Rattle.types.proofs.Accepted.{scalar_row}
use Rattle.relations.specs.Extends.{extends}
use Rattle.relations.proofs.Extension.{extends_refl, extends_trans}
use Rattle.values.specs.Values.{BOOLEAN, INTEGER, Scalar, Scalar.a_boolean, Scalar.an_integer, kind_of, InRange, Answer}
use Rattle.values.specs.Values.{Gives, Gives.value, Gives.trapped, bind, cell_of}
use Rattle.values.specs.declared.Value.{Value}
use Rattle.values.specs.declared.Trap.{Trap}
use Rattle.values.specs.declared.Stop.TheVariants as St
use Rattle.values.proofs.Cells.{cell_held}
use Rattle.values.proofs.Giving.{gives_boolean}
use Rattle.values.proofs.Ranges.{constant_typed}
use Rattle.values.proofs.Cases.{integer_only}
use Rattle.values.proofs.Scalars.{scalar_below, below_scalar}
use Rattle.kinds.proofs.Scalars.{dyadic_scalar, monadic_scalar}
use Rattle.operators.specs.Operators.{monadic_of, applied_to}
use Rattle.operators.proofs.Typed.{monadic_typed as operator_typed}
use Rattle.operators.proofs.Skipping.{applied_typed}
use Rattle.frames.specs.Variables.{is_global}
use Rattle.nodes.specs.Nodes.{is_designator}
use Rattle.nodes.proofs.Accepted.{NodeRow, NodeRow.is_constant, NodeRow.is_variable, NodeRow.is_field}
use Rattle.nodes.proofs.Accepted.{NodeRow.is_element_lem, NodeRow.is_guard, NodeRow.is_dyadic, NodeRow.is_monadic}
use Rattle.nodes.proofs.Accepted.{NodeRow.is_test, NodeRow.is_argument_lem, Designator, designator_is, Whole}
use Rattle.nodes.proofs.Accepted.{ConstantNode, VariableNode, FieldNode, ElementNode, GuardNode, DyadicNode}
use Rattle.nodes.proofs.Accepted.{MonadicNode, ArgumentNode}
use Rattle.typing.specs.Typing.{type_of}
use Rattle.typing.proofs.Accepted.{constant_typed as constant_type, variable_typed, field_typed, element_typed}
use Rattle.typing.proofs.Accepted.{guard_typed, dyadic_typed, monadic_typed, test_typed, argument_typed}
use Rattle.owners.specs.Owners.{own_variable, own_below}
use Rattle.owners.proofs.Accepted.{own_variable_lem, variable_own, field_own, element_own, guard_own, dyadic_own}
use Rattle.owners.proofs.Accepted.{monadic_own, test_own, argument_own}
use Rattle.checker.proofs.Accepted.{AcceptedTables}
use Rattle.semantics.specs.declared.Place.{Place}
use Rattle.semantics.specs.Memory.{ADDRESS, TYPE, Cell, tagged, mark_of, cell_at, value_at, mark_at}
use Rattle.semantics.specs.Layout.{Program, place_of}
use Rattle.semantics.specs.Finding.{reach, content, index, with_mark, object, parameter_place, variable_place, Found}
use Rattle.semantics.specs.Finding.{field_place, element_place, array_place, guard_place, test_of, Meaning}
use Rattle.semantics.specs.Finding.{no_meaning, designator, meaning_by, meaning_of, find_of, eval_of}
use Rattle.semantics.specs.Stepping.{State}
use Rattle.semantics.specs.Sound.{Want, Want.any_value, Want.exactly, Fits, Fits.fits_value, Fits.fits_exactly}
use Rattle.semantics.specs.Sound.{Matched, Frame, values_of, frame_wants, wants, room, Own, Object}
use Rattle.semantics.specs.Sound.{Object.of_global, Object.of_frame, Object.of_older, Object.of_field}
use Rattle.semantics.specs.Sound.{Object.of_element, Slot, Slot.by_value, Slot.by_reference, Stack}
use Rattle.semantics.specs.Sound.{Stack.a_frame, Sound}
use Rattle.semantics.proofs.Holding.{part_next, part_end, matched_at, cell_below}
use Rattle.semantics.proofs.Objects.{global_is, own_kind, object_typed, object_part, object_front, slot_at}
use Rattle.semantics.proofs.Objects.{place_own, place_global}
use Rattle.semantics.proofs.Kinship.{extends_other, extension_field, global_low}

-- an object of type x was found, or a trap ends the step
pub data FoundOk (g : Program) (fs : List Frame) (x : ℕ) : Found → Type 0 where
  found_ok : {place : Place} → place.declared ≡ x → extends g.types place.dynamic place.declared ≡ true
      → Object g fs place.address place.dynamic → FoundOk g fs x (Ok place)
  found_trap : {t : Trap} → FoundOk g fs x (Err (St.Trap t))

-- node row r is a designator, or an argument that holds one
pub data Designates (g : Program) (r : ℕ) : Type 0 where
  itself : is_designator g.nodes r ≡ true → Designates g r
  as_argument : (row_at g.nodes r).kind ≡ 8 → is_designator g.nodes (row_at g.nodes r).a ≡ true → Designates g r

-- ---- one law a combinator

module _ {g : Program} {fs : List Frame} where
  reach_ok : {x y : ℕ} {m : Found} (k : Place → Found) → FoundOk g fs x m
      → ((place : Place) → place.declared ≡ x → extends g.types place.dynamic place.declared ≡ true
      → Object g fs place.address place.dynamic → FoundOk g fs y (k place)) → FoundOk g fs y (reach m k)
  unfolding reach
  reach_ok k (found_ok {place = place} a b c) next = next place a b c
  reach_ok k found_trap next = found_trap

  content_ok : {x y : ℕ} {m : Found} (k : Place → Answer) → FoundOk g fs x m
      → ((place : Place) → place.declared ≡ x → extends g.types place.dynamic place.declared ≡ true
      → Object g fs place.address place.dynamic → Gives y (k place)) → Gives y (content m k)
  unfolding content
  content_ok k (found_ok {place = place} a b c) next = next place a b c
  content_ok k found_trap next = trapped

  index_ok : {y : ℕ} {m : Answer} (k : ℤ → Found) → Gives INTEGER m → ((z : ℤ) → FoundOk g fs y (k z))
      → FoundOk g fs y (index m k)
  unfolding index
  index_ok {y} k (value {v = v} e range) next = integer_only (FoundOk g fs y) _ v k e next
  index_ok k trapped next = found_trap

  -- "every other object's is its declared type"
  object_ok : {at r : ℕ} → Object g fs at r → FoundOk g fs r (object at r)
  object_ok {at} {r} o =
      found_ok {place = record { address = at; declared = r; dynamic = r }} refl (extends_refl g.types r) o

bind_ok : {x y : ℕ} {m : Answer} (k : Value → Answer) → Gives x m
    → ((v : Value) → kind_of v ≡ x → InRange v → Gives y (k v)) → Gives y (bind m k)
unfolding bind
bind_ok k (value {v = v} e range) next = next v e range
bind_ok k trapped next = trapped

-- ---- wants and cells

-- a cell below top
cell_there : (top : ℕ) (cells : List Cell) {w ws : List Want} {b : Want} {a : ℕ} → Matched Fits (take top cells) w
    → Part w a (b ∷ ws) → a < top → Fits (cell_at tagged cells a) b
unfolding cell_at
cell_there top cells {a = a} h p low =
    let d : Cell = tagged.loose (pos 0) in
    rw (← cell_below cells d a top low) (matched_at d h p)

-- a link, an address or a type reads as its number
marked_number : (c : Cell) (k n : ℕ) → n < 65536 → Fits c (exactly k n) → tagged.marked k c ≡ Some n
unfolding tagged mark_of
marked_number c k n small (fits_exactly kind e) =
    choose_yes _ _ _ (eq-eqb k c.kind (sym kind)) ∙ rw e (choose_yes _ _ _ (lt-ltb n _ small))

-- such a cell below top
pub mark_there : (top : ℕ) (cells : List Cell) {w ws : List Want} {k n a : ℕ} → Matched Fits (take top cells) w
    → Part w a (exactly k n ∷ ws) → a < top → n < 65536 → mark_at tagged top cells k a ≡ Some n
unfolding mark_at
mark_there top cells {k = k} {n} {a} h p low small =
    choose_yes _ _ _ (lt-ltb a top low)
    ∙ marked_number (cell_at tagged cells a) k n small (cell_there top cells h p low)

-- ---- single cells

module _ (g : Program)
    (ok : AcceptedTables g.types g.fields g.variables g.procedures g.nodes g.statements) where
  -- a scalar kind is the row of its type
  pub kind_row : {k : ℕ} → Scalar k → kind_in g.types k ≡ k
  kind_row {k} scalar =
      let low = scalar_below scalar in
      let most = ok.scalars in
      let three = three_rows ok.questions.types.version in
      scalar_row g.types g.fields ok.questions.types k (omega arith) (omega arith)

  -- what has one is a single cell
  pub kind_scalar : (x : ℕ) → Scalar (kind_in g.types x) → is_single g.types x ≡ true
  kind_scalar x scalar = let low = scalar_below scalar in kind_single g.types x (λ e. absurd (omega arith))

  pub row_single : {k : ℕ} → Scalar k → is_single g.types k ≡ true
  row_single {k} scalar = kind_scalar k (rw (kind_row scalar) scalar)

  pub single_values : (x : ℕ) → is_single g.types x ≡ true → values_of g x ≡ any_value (kind_in g.types x) ∷ []
  unfolding values_of
  single_values x h = rw (single_layout g.types g.fields ok.types x h)

  module _ {fs : List Frame} (stack : Stack g fs) (place : Place)
      (extended : extends g.types place.dynamic place.declared ≡ true)
      (object : Object g fs place.address place.dynamic) where
    -- the cells of an object that was found, as those of a type that its declared one extends
    pub found_front : (u : ℕ) → extends g.types place.declared u ≡ true
        → Part (wants g fs) place.address (values_of g u)
    found_front u e =
        object_front g ok u stack object (extends_trans g.types place.dynamic place.declared u extended e)

    -- a single one's
    pub found_single : is_single g.types place.declared ≡ true
        → Part (wants g fs) place.address (any_value (kind_in g.types place.declared) ∷ [])
    found_single h =
        rw (← single_values place.declared h)
        (found_front place.declared (extends_refl g.types place.declared))

-- ---- nodes

pub designator_yes : {n : List ℕ} {k : ℕ} → Designator n k → is_designator n k ≡ true
unfolding is_designator
designator_yes {n} {k} d =
    also_yes (le-leb 1 (row_at n k).kind d.least) (le-leb (row_at n k).kind 4 d.most)

record MeaningOk (g : Program) (fs : List Frame) (r x : ℕ) (m : Meaning) : Type 0 where
  place : Designates g r → FoundOk g fs x m.place
  value : is_single g.types x ≡ true → Gives (kind_in g.types x) m.value

module _ (g : Program)
    (ok : AcceptedTables g.types g.fields g.variables g.procedures g.nodes g.statements)
    (bytes : Bytes g.nodes) (s : State Cell) (sound : Sound g s) where
  abbrev frames : List Frame
  frames = sound.newest ∷ sound.others

  abbrev procedure : ℕ
  procedure = sound.newest.procedure

  abbrev base : ℕ
  base = s.at.base

  abbrev top : ℕ
  top = s.at.top

  abbrev cells : List Cell
  cells = s.cells

  there : procedure < rows_of g.procedures
  there = sound.inside.procedure

  -- ---- cells below top

  pub part_top : {a : ℕ} {ws : List Want} → Part (wants g frames) a ws → a + length ws ≤ s.at.top
  part_top p = omega (arith, part_end p, sound.ends)

  part_inside : {a : ℕ} {b : Want} {ws : List Want} → Part (wants g frames) a (b ∷ ws) → a < top
  part_inside p = let h = part_top p in omega arith

  held_value : (x : ℕ) (c : Cell) → Fits c (any_value x) → Gives x (tagged.held x c)
  unfolding tagged
  held_value x c (fits_value {v = v} kind e) =
      let held = cell_held x c.number e in
      rw (choose_yes _ (cell_of x c.number) (Err St.Stuck) (eq-eqb x c.kind (sym kind)), e)
      (value held.kind held.range)

  -- ---- an object's value

  single_value : (x : ℕ) → is_single g.types x ≡ true → (place : Place) → place.declared ≡ x
      → extends g.types place.dynamic place.declared ≡ true
      → Object g frames place.address place.dynamic
      → Gives (kind_in g.types x)
      (value_at tagged top cells (kind_in g.types place.declared) place.address)
  unfolding value_at
  single_value x h place declared extended object =
      let one = found_single g ok sound.stack place extended object (rw declared h) in
      let inside = part_inside one in
      let c : Cell = cell_at tagged cells place.address in
      let gives = held_value (kind_in g.types place.declared) c
      (cell_there top cells sound.holding one inside) in
      rw (choose_yes _ (tagged.held (kind_in g.types place.declared) c) (Err St.Stuck)
      (lt-ltb place.address top inside))
      (rw declared (rw declared at gives))

  designator_ok : (r x : ℕ) (found : Found) → FoundOk g frames x found
      → MeaningOk g frames r x (designator tagged g top cells found)
  unfolding designator
  designator_ok r x found is = record {
    place = λ d. is;
    value = λ h. content_ok
        (λ place. value_at tagged top cells (kind_in g.types place.declared) place.address) is
        (single_value x h);
  }

  -- ---- variables

  abbrev variable_at : ℕ → Found
  variable_at a = variable_place tagged g base top cells a (row_at g.variables a)

  variable_global : (a : ℕ) → a < rows_of g.variables → is_global g.variables a ≡ true
      → FoundOk g frames (row_at g.variables a).a (variable_at a)
  unfolding variable_place
  variable_global a low e =
      let kind = global_is g.variables a e in
      rw (choose_yes _ (object (place_of g a) (row_at g.variables a).a) _
      (eq-eqb (row_at g.variables a).kind 0 kind))
      (object_ok (rw (place_global g ok a e)
      (of_global a (global_low g.types g.variables a (ok.variable a low) low e kind))))

  -- a local or value parameter stands in the newest frame
  variable_plain : (a : ℕ) → Own g procedure a → 1 ≤ (row_at g.variables a).kind → (row_at g.variables a).kind ≤ 2
      → FoundOk g frames (row_at g.variables a).a (variable_at a)
  unfolding variable_place
  variable_plain a own least most =
      rw (
        choose_no _ _ _ (ne_eqb (row_at g.variables a).kind 0 (λ e. absurd (omega arith))),
        choose_yes _ _ _ (le-leb (row_at g.variables a).kind 2 most),
      )
      (object_ok (rw (sound.begins, place_own g ok procedure a there own) (of_frame own most)))

  -- the address of an object, and its type, as numbers of cells
  object_small : {fs : List Frame} {at r : ℕ} → Stack g fs → Object g fs at r → room g fs < 65536
      → (at < 65536) × (r < 65536)
  object_small st object small =
      let within = (object_part g ok st object).within in
      let typed = object_typed g ok object in
      let few = ok.counts.types in
      (omega arith, omega arith)

  older : Stack g sound.others
  older = go sound.stack
    where
      go : {f : Frame} {fs : List Frame} → Stack g (f ∷ fs) → Stack g fs
      go (a_frame st low called slots) = st

  older_small : room g sound.others < 65536
  unfolding wants frame_wants
  older_small =
      let e = sound.ends in
      let l = length-append (wants g sound.others) (frame_wants g sound.newest) in
      let h = sound.stored in
      let few = sound.lent in
      omega arith

  parameter_slot : (a : ℕ) {ws : List Want} → Slot g sound.others a ws → (row_at g.variables a).kind ≡ 3 → (at : ℕ)
      → Part (wants g frames) at ws
      → FoundOk g frames (row_at g.variables a).a (parameter_place tagged top cells at (row_at g.variables a).a)
  unfolding parameter_place with_mark
  parameter_slot a (by_value most) kind at part = absurd (omega arith)
  parameter_slot a (by_reference {at = address} {r = r} is object extended) kind at part =
      let small = older_small in
      let (low, type) = object_small older object small in
      let next = part_next part in
      rw (
        mark_there top cells {k = ADDRESS} {n = address} sound.holding part (part_inside part) low,
        mark_there top cells {k = TYPE} {n = r} sound.holding next (part_inside next) type,
      )
      (found_ok {place = record { address = address; declared = (row_at g.variables a).a; dynamic = r }}
      refl extended (of_older object))

  variable_parameter : (a : ℕ) → Own g procedure a → (row_at g.variables a).kind ≡ 3
      → FoundOk g frames (row_at g.variables a).a (variable_at a)
  unfolding variable_place
  variable_parameter a own kind =
      let (ws, slot, part) = slot_at g ok sound.stack a own in
      rw (
        choose_no _ _ _ (ne_eqb (row_at g.variables a).kind 0 (λ e. absurd (omega arith))),
        choose_no _ _ _ (lt-leb (row_at g.variables a).kind 2 (omega arith)),
        choose_yes _ _ _ (eq-eqb (row_at g.variables a).kind 3 kind),
      )
      (parameter_slot a slot kind (base + place_of g a) (rw (sound.begins, place_own g ok procedure a there own) part))

  variable_ok : (a : ℕ) → a < rows_of g.variables → own_variable g.variables g.procedures procedure a ≡ true
      → FoundOk g frames (row_at g.variables a).a (variable_at a)
  variable_ok a low e =
      ⊎_elim (variable_global a low) (λ h. mine (record { low = h.0; high = h.1 }))
      (own_variable_lem g.variables g.procedures procedure a e)
    where
      mine : Own g procedure a → FoundOk g frames (row_at g.variables a).a (variable_at a)
      mine own = go (dec_le (row_at g.variables a).kind 2)
        where
          go : Dec ((row_at g.variables a).kind ≤ 2) → FoundOk g frames (row_at g.variables a).a (variable_at a)
          go (yes h) = variable_plain a own (own_kind g ok procedure a there own).0 h
          go (no h) = let most = (own_kind g ok procedure a there own).1 in variable_parameter a own (omega arith)

  -- ---- guards, fields, elements

  guard_ok : (b x : ℕ) {m : Found} → FoundOk g frames x m → FoundOk g frames b (reach m (guard_place g b))
  unfolding guard_place
  guard_ok b x is =
      reach_ok (guard_place g b) is (λ place declared extended object.
      choose_has (FoundOk g frames b) (extends g.types place.dynamic b)
      (λ e. found_ok {place = record { address = place.address; declared = b; dynamic = place.dynamic }}
      refl e object)
      (λ e. found_trap))

  field_ok : (w j at x : ℕ) {m : Found} → field_of g.types g.fields w j ≡ Some (field_at at x) → FoundOk g frames w m
      → FoundOk g frames x (reach m (λ whole. field_place whole (field_of g.types g.fields whole.declared j)))
  unfolding field_place
  field_ok w j at x field is =
      reach_ok (λ whole. field_place whole (field_of g.types g.fields whole.declared j)) is
      (λ place declared extended object.
      let here : field_of g.types g.fields place.declared j ≡ Some (field_at at x) = rw declared field in
      rw here
      (object_ok (of_field j object (extension_field g.types g.fields ok.types place.dynamic
      place.declared j extended (object_typed g ok object) here))))

  element_there : (place : Place) → (row_at g.types place.declared).kind ≡ 3
      → extends g.types place.dynamic place.declared ≡ true
      → Object g frames place.address place.dynamic → (z : ℤ)
      → FoundOk g frames (row_at g.types place.declared).a
      (element_place g place (row_at g.types place.declared) z)
  unfolding element_place
  element_there place array extended thing (pos i) =
      let other : (row_at g.types place.declared).kind ≡ 4 → ⊥ = λ e. absurd (omega arith) in
      let same = extends_other g.types g.fields ok.types place.dynamic place.declared extended
      (object_typed g ok thing) other in
      choose_has (FoundOk g frames (row_at g.types place.declared).a)
      (ltb i (row_at g.types place.declared).b)
      (λ e. object_ok (of_element (rw same at thing) array (ltb-true i _ e)))
      (λ e. found_trap)
  element_there place array extended thing (negsuc i) = found_trap

  element_ok : (w : ℕ) {m : Found} {index_answer : Answer} → (row_at g.types w).kind ≡ 3 → FoundOk g frames w m
      → Gives INTEGER index_answer
      → FoundOk g frames (row_at g.types w).a (reach m (λ whole. array_place g whole index_answer))
  unfolding array_place
  element_ok w {index_answer = answer} array is gives =
      reach_ok (λ whole. array_place g whole answer) is (λ place declared extended thing.
      let here : (row_at g.types place.declared).kind ≡ 3 = rw declared array in
      rw (
        choose_yes _ (index answer (element_place g place (row_at g.types place.declared))) (Err St.Stuck)
            (eq-eqb _ 3 here),
        ← declared,
      )
      (index_ok (element_place g place (row_at g.types place.declared)) gives
      (element_there place here extended thing)))

  test_ok : (b x : ℕ) {m : Found} → FoundOk g frames x m → Gives BOOLEAN (content m (test_of g b))
  unfolding test_of
  test_ok b x is =
      content_ok (test_of g b) is (λ place declared extended thing. gives_boolean
      (extends g.types place.dynamic b))

  -- ---- every node, from the low rows up

  abbrev Right : ℕ → Meaning → Type 0
  Right r m = r < rows_of g.nodes → (x : ℕ) → type_of g.types g.fields g.variables g.nodes r ≡ Some x
      → own_below g.variables g.procedures g.nodes procedure r ≡ true → MeaningOk g frames r x m

  abbrev by : (ℕ → Meaning) → ℕ → Row → Meaning
  by child kind row = meaning_by tagged g base top cells child kind row

  expression_ok : (r x : ℕ) {answer : Answer} → (is_designator g.nodes r ≡ true → ⊥)
      → ((row_at g.nodes r).kind ≡ 8 → ⊥) → Scalar x → Gives x answer
      → MeaningOk g frames r x (record { place = Err St.Stuck; value = answer })
  expression_ok r x plain other scalar gives =
      record { place = λ d. no d; value = λ h. rw (kind_row g ok scalar) gives }
    where
      no : Designates g r → FoundOk g frames x (Err St.Stuck)
      no (itself e) = absurd (plain e)
      no (as_argument k e) = absurd (other k)

  not_designator : (r : ℕ) → 4 < (row_at g.nodes r).kind → is_designator g.nodes r ≡ true → ⊥
  not_designator r h e = let d = designator_is g.nodes r e in let most = d.most in absurd (omega arith)

  not_constant : (r : ℕ) → (row_at g.nodes r).kind ≡ 0 → is_designator g.nodes r ≡ true → ⊥
  not_constant r h e = let d = designator_is g.nodes r e in let least = d.least in absurd (omega arith)

  module _ (r : ℕ) (child : ℕ → Meaning) (ih : (k : ℕ) → k < r → Right k (child k)) (low : r < rows_of g.nodes)
      (x : ℕ)
      (typed : type_of g.types g.fields g.variables g.nodes r ≡ Some x)
      (own : own_below g.variables g.procedures g.nodes procedure r ≡ true) where
    abbrev row : Row
    row = row_at g.nodes r

    abbrev types_of : ℕ → Option ℕ
    types_of k = type_of g.types g.fields g.variables g.nodes k

    abbrev owned : ℕ → Type 0
    owned k = own_below g.variables g.procedures g.nodes procedure k ≡ true

    whole_place : (k w : ℕ) → Whole g.nodes r k → types_of k ≡ Some w → owned k
        → FoundOk g frames w (child k).place
    whole_place k w is type own_child =
        let there_row = is.node.within in
        (ih k is.low there_row w type own_child).place (itself (designator_yes is.node))

    child_value : (k w : ℕ) → k < r → k < rows_of g.nodes → types_of k ≡ Some w → owned k
        → is_single g.types w ≡ true → Gives (kind_in g.types w) (child k).value
    child_value k w less there_row type own_child h = (ih k less there_row w type own_child).value h

    node_by : (kind : ℕ) → row.kind ≡ kind → MeaningOk g frames r x (by child kind row)
        → MeaningOk g frames r x (by child row.kind row)
    node_by kind e m = subst (λ (j : ℕ). MeaningOk g frames r x (by child j row)) (sym e) m

    constant_node : row.kind ≡ 0 → ConstantNode row → MeaningOk g frames r x (by child 0 row)
    unfolding meaning_by choose
    constant_node k c =
        let small = row_small g.nodes bytes r in
        let type = constant_type g.types g.fields g.variables g.nodes
        ok.questions.nodes r low typed k in
        let most = c.typed in
        rw type (expression_ok r row.a (not_constant r k) (λ e. absurd (omega arith))
        (below_scalar row.a (omega arith))
        (constant_typed row.a row.b row.c (omega arith) (λ e. let (b, d) = c.boolean e in omega arith)
        small.b small.c))

    variable_node_lem : row.kind ≡ 1 → VariableNode g.variables row → MeaningOk g frames r x (by child 1 row)
    unfolding meaning_by choose
    variable_node_lem k c =
        let type = variable_typed g.types g.fields g.variables g.nodes
        ok.questions.nodes r low typed k in
        let mine = variable_own g.types g.variables g.procedures g.nodes
        ok.questions.nodes procedure r low own k in
        rw type (designator_ok r (row_at g.variables row.a).a (variable_at row.a)
        (variable_ok row.a c.variable mine))

    field_node_lem : row.kind ≡ 2 → FieldNode g.nodes r row → MeaningOk g frames r x (by child 2 row)
    unfolding meaning_by choose
    field_node_lem k c =
        let type = field_typed g.types g.fields g.variables g.nodes ok.questions.nodes r low typed k in
        let mine = field_own g.types g.variables g.procedures g.nodes
        ok.questions.nodes procedure r low own k in
        designator_ok r x _ (field_ok type.whole row.b type.at x type.field
        (whole_place row.a type.whole c.whole type.whole_type mine))

    element_node_lem : row.kind ≡ 3 → ElementNode g.nodes r row → MeaningOk g frames r x (by child 3 row)
    unfolding meaning_by choose
    element_node_lem k c =
        let type = element_typed g.types g.fields g.variables g.nodes
        ok.questions.nodes r low typed k in
        let (mine, index_own) = element_own g.types g.variables g.procedures g.nodes
        ok.questions.nodes procedure r low own k in
        rw type.element
        (designator_ok r (row_at g.types type.whole).a _
        (element_ok type.whole type.array (whole_place row.a type.whole c.whole type.whole_type mine)
        (rw (kind_row g ok an_integer) at (child_value row.b INTEGER c.index.low c.index.node.within
        type.index_type index_own (row_single g ok an_integer)))))

    guard_node : row.kind ≡ 4 → GuardNode g.types g.variables row → MeaningOk g frames r x (by child 4 row)
    unfolding meaning_by choose
    guard_node k c =
        let type = guard_typed g.types g.fields g.variables g.nodes ok.questions.nodes r low typed k in
        let mine = guard_own g.types g.variables g.procedures g.nodes
        ok.questions.nodes procedure r low own k in
        rw type.guarded (designator_ok r row.b _
        (guard_ok row.b (row_at g.variables row.a).a (variable_ok row.a c.variable mine)))

    dyadic_node_lem : row.kind ≡ 5 → DyadicNode g.nodes r row → MeaningOk g frames r x (by child 5 row)
    unfolding meaning_by choose
    dyadic_node_lem k c =
        let type = dyadic_typed g.types g.fields g.variables g.nodes
        ok.questions.nodes r low typed k in
        let (left_own, right_own) = dyadic_own g.types g.variables g.procedures g.nodes
        ok.questions.nodes procedure r low own k in
        let scalars = dyadic_scalar row.c _ _ x type.result in
        let left_single = kind_scalar g ok _ scalars.left_scalar in
        let right_single = kind_scalar g ok _ scalars.right_scalar in
        expression_ok r x (not_designator r (omega arith)) (λ e. absurd (omega arith)) scalars.given_scalar
        (bind_ok (λ left. applied_to row.c left (child row.b).value)
        (child_value row.a type.left c.left.low c.left.node.within type.left_type left_own left_single)
        (λ v e range. applied_typed row.c (rw e type.result) range
        (child_value row.b type.right c.right.low c.right.node.within
        type.right_type right_own right_single)))

    monadic_node_lem : row.kind ≡ 6 → MonadicNode g.nodes r row → MeaningOk g frames r x (by child 6 row)
    unfolding meaning_by choose
    monadic_node_lem k c =
        let type = monadic_typed g.types g.fields g.variables g.nodes
        ok.questions.nodes r low typed k in
        let mine = monadic_own g.types g.variables g.procedures g.nodes
        ok.questions.nodes procedure r low own k in
        let (operand_scalar, given_scalar) = monadic_scalar row.c _ x type.result in
        expression_ok r x (not_designator r (omega arith)) (λ e. absurd (omega arith)) given_scalar
        (bind_ok (λ operand. monadic_of row.c operand)
        (child_value row.a type.operand c.operand.low c.operand.node.within
        type.operand_type mine (kind_scalar g ok _ operand_scalar))
        (λ v e range. operator_typed row.c (rw e type.result) range))

    test_node : row.kind ≡ 7 → GuardNode g.types g.variables row → MeaningOk g frames r x (by child 7 row)
    unfolding meaning_by choose
    test_node k c =
        let type = test_typed g.types g.fields g.variables g.nodes ok.questions.nodes r low typed k in
        let mine = test_own g.types g.variables g.procedures g.nodes
        ok.questions.nodes procedure r low own k in
        rw type.boolean
        (expression_ok r BOOLEAN (not_designator r (omega arith)) (λ e. absurd (omega arith)) a_boolean
        (test_ok row.b (row_at g.variables row.a).a (variable_ok row.a c.variable mine)))

    argument_node : row.kind ≡ 8 → ArgumentNode g.nodes r row → MeaningOk g frames r x (by child 8 row)
    unfolding meaning_by choose
    argument_node k c =
        let type = argument_typed g.types g.fields g.variables g.nodes
        ok.questions.nodes r low typed k in
        let mine = argument_own g.types g.variables g.procedures g.nodes
        ok.questions.nodes procedure r low own k in
        let inner = ih row.a c.holds.low c.holds.node.within x type mine in
        record { place = λ d. go inner d; value = inner.value }
      where
        go : MeaningOk g frames row.a x (child row.a) → Designates g r
            → FoundOk g frames x (child row.a).place
        go inner (itself e) = absurd (not_designator r (omega arith) e)
        go inner (as_argument kind e) = inner.place (itself e)

    node_ok : MeaningOk g frames r x (by child row.kind row)
    node_ok = go (ok.node r low)
      where
        go : NodeRow g.types g.variables g.nodes r → MeaningOk g frames r x (by child row.kind row)
        go (is_constant z k c) = node_by 0 k (constant_node k c)
        go (is_variable z k c) = node_by 1 k (variable_node_lem k c)
        go (is_field z k c) = node_by 2 k (field_node_lem k c)
        go (is_element_lem z k c) = node_by 3 k (element_node_lem k c)
        go (is_guard z k c) = node_by 4 k (guard_node k c)
        go (is_dyadic z k c) = node_by 5 k (dyadic_node_lem k c)
        go (is_monadic z k c) = node_by 6 k (monadic_node_lem k c)
        go (is_test z k c) = node_by 7 k (test_node k c)
        go (is_argument_lem z k c) = node_by 8 k (argument_node k c)

  meaning_ok : (r : ℕ) → Right r (meaning_of tagged g base top cells r)
  unfolding meaning_of
  meaning_ok r =
      rec_ind no_meaning (λ child k. meaning_by tagged g base top cells child (row_at g.nodes k).kind
      (row_at g.nodes k)) Right
      (λ k child ih high low x typed own. node_ok k child ih low x typed own) r

  -- ---- what the statements cite

  module _ (r x : ℕ) (low : r < rows_of g.nodes)
      (typed : type_of g.types g.fields g.variables g.nodes r ≡ Some x)
      (own : own_below g.variables g.procedures g.nodes procedure r ≡ true) where
    pub find_ok : Designates g r → FoundOk g frames x (find_of tagged g s.at.base s.at.top s.cells r)
    unfolding find_of
    find_ok d = (meaning_ok r low x typed own).place d

    pub eval_ok : is_single g.types x ≡ true
        → Gives (kind_in g.types x) (eval_of tagged g s.at.base s.at.top s.cells r)
    unfolding eval_of
    eval_ok h = (meaning_ok r low x typed own).value h
