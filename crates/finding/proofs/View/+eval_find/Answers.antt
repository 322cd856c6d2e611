-- `finding::eval` and `finding::find` meet their contracts: they call each other for lower rows alone.
use mathlib.Core.Path.{◌≡◌, refl, sym, ap, ◌∙◌}
use mathlib.Core.Logic.{◌⊎◌, inl, inr, ⊎_elim}
use mathlib.Core.Bool.{false}
use mathlib.Core.List.{List}
use Prim.Native.Nat.{ℕ, ◌<◌}
use lib.IntN.{ℤ}
use borrow.Author.Tests.{ne_eqb}
use borrow.Author.Rules.{rules}
use Rattle.prelude.specs.Choice.{choose}
use Rattle.image.specs.declared.Row.{Row}
use Rattle.image.specs.Rows.{row_at}
use Rattle.values.specs.Values.{bind, Answer}
use Rattle.values.specs.declared.Value.{Value}
use Rattle.values.specs.declared.Value.TheVariants as Vs
use Rattle.values.specs.declared.Stop.TheVariants as St
use Rattle.values.proofs.Binding.{bind_value, bind_other}
use Rattle.values.proofs.Numbers.{plain32}
use Rattle.operators.specs.Operators.{dyadic_of, monadic_of, applied_to, decides}
use Rattle.operators.proofs.Operands.{two_booleans, two_integers, integer_and_set, two_sets}
use Rattle.operators.proofs.Operands.{not_booleans, not_integer, not_sets}
use Rattle.shapes.specs.Forms.{kind_in}
use Rattle.relations.specs.Fields.{field_of}
use Rattle.semantics.specs.declared.Place.{Place}
use Rattle.semantics.specs.Memory.{bare, value_at}
use Rattle.semantics.specs.Layout.{Program}
use Rattle.semantics.specs.Finding.{reach, content, index, variable_place, field_place, element_place, array_place}
use Rattle.semantics.specs.Finding.{guard_place, test_of, designator, Meaning, meaning_by, find_of, eval_of, Found}
use Rattle.semantics.specs.Running.{program_of}
use Rattle.finding.specs.Missed.{lost}
use Rattle.finding.proofs.Missed.{reach_object, content_object, reach_other, content_other, index_other}
use Rattle.finding.proofs.Missed.{index_handed, index_none, index_value, array_stuck, array_none, array_index}
use Rattle.finding.proofs.Laws.{lower, find_row, eval_row, find_lower, eval_lower, not_lower, find_other}
use Rattle.finding.proofs.Low.{find_within, variable_there, field_there, element_there, guard_there}
use Rattle.finding.proofs.View.+eval_find.Goals as goal
use Rattle.finding.proofs.View.+eval_find.Goals.{eval-In-Ok-right}
use Rattle.std.specs.Prelude.{Ok, Err}

-- ---- what a node is worth and what it designates, by what is known of it

module _ (g : Program) (base top : ℕ) (store : List ℤ) (r : ℕ) (row : Row) (here : row ≡ row_at g.nodes r) where
  -- what the node is worth
  abbrev worth : Answer
  worth = eval_of bare g base top store r

  -- what it designates
  abbrev found : Found
  found = find_of bare g base top store r

  -- what lower nodes mean
  abbrev low : ℕ → Meaning
  low = lower bare g base top store r

  -- the node's field or element of an object
  abbrev field : Place → Found
  field whole = field_place whole (field_of g.types g.fields whole.declared row.b)

  abbrev element : Answer → Place → Found
  element answer whole = array_place g whole answer

  -- the field that the node names
  named : (whole : Place)
      → field_place whole (field_of g.types g.fields whole.declared (row_at g.nodes r).b) ≡ field whole
  named whole = ap (λ (x : Row). field_place whole (field_of g.types g.fields whole.declared x.b)) (sym here)

  -- what an object holds
  abbrev held : Found → Answer
  held x = content x (λ place. value_at bare top store (kind_in g.types place.declared) place.address)

  -- what is no object holds nothing, whatever would follow from it
  lost_held : {x : Found} → ((p : Place) → x ≡ Ok p → ⊥) → (next : Place → Found) → held (reach x next) ≡ lost x
  lost_held none next = ap held (reach_other _ none next) ∙ content_other _ none _

  -- a node of a kind
  at_row : (kind : ℕ) → row.kind ≡ kind → worth ≡ (meaning_by bare g base top store low kind row).value
  at_row kind e = eval_row _ _ _ _ _ _ row here kind e

  f_row : (kind : ℕ) → row.kind ≡ kind → found ≡ (meaning_by bare g base top store low kind row).place
  f_row kind e = find_row _ _ _ _ _ _ row here kind e

  -- a variable
  at_variable : row.kind ≡ 1 → {x : Found} → x ≡ variable_place bare g base top store row.a (row_at g.variables row.a)
      → worth ≡ held x
  unfolding meaning_by designator choose
  at_variable kind f = at_row 1 kind ∙ rw (← f)

  -- a field: the record, and then its part
  module _ (kind : row.kind ≡ 2) (less : row.a < r) {x : Found} (f : x ≡ find_of bare g base top store row.a) where
    at_whole : worth ≡ held (reach x field)
    unfolding meaning_by designator choose
    at_whole = at_row 2 kind ∙ rw (find_lower _ _ _ _ _ _ _ less f)

    at_whole_lost : ((p : Place) → x ≡ Ok p → ⊥) → worth ≡ lost x
    at_whole_lost none = at_whole ∙ lost_held none field

    f_whole : found ≡ reach x field
    unfolding meaning_by designator choose
    f_whole = f_row 2 kind ∙ rw (find_lower _ _ _ _ _ _ _ less f)

    module _ {owner : Place} (o : x ≡ Ok owner) where
      at_record : worth ≡ held (field owner)
      at_record = at_whole ∙ ap held (reach_object o _)

      f_part : {part : Found}
          → part ≡ field_place owner (field_of g.types g.fields owner.declared (row_at g.nodes r).b) → part ≡ found
      f_part p = p ∙ named owner ∙ sym (f_whole ∙ reach_object o _)

      at_part : {part : Found}
          → part ≡ field_place owner (field_of g.types g.fields owner.declared (row_at g.nodes r).b) → worth ≡ held part
      at_part p = at_record ∙ ap held (sym (p ∙ named owner))

  -- an element: the array, the index, and then its part
  module _ (kind : row.kind ≡ 3) (less : row.a < r) {x : Found} (f : x ≡ find_of bare g base top store row.a) where
    at_list : worth ≡ held (reach x (element (low row.b).value))
    unfolding meaning_by designator choose
    at_list = at_row 3 kind ∙ rw (find_lower _ _ _ _ _ _ _ less f)

    at_list_lost : ((p : Place) → x ≡ Ok p → ⊥) → worth ≡ lost x
    at_list_lost none = at_list ∙ lost_held none (element (low row.b).value)

    f_list : found ≡ reach x (element (low row.b).value)
    unfolding meaning_by designator choose
    f_list = f_row 3 kind ∙ rw (find_lower _ _ _ _ _ _ _ less f)

    module _ {array : Place} (o : x ≡ Ok array) where
      at_array : worth ≡ held (element (low row.b).value array)
      at_array = at_list ∙ ap held (reach_object o _)

      at_no_array : (type : Row) → type ≡ row_at g.types array.declared → (type.kind ≡ 3 → ⊥) → worth ≡ Err St.Stuck
      unfolding content
      at_no_array type is none =
          at_array ∙ ap held (array_none _ _ _ (λ e. none (ap (λ (x : Row). x.kind) is ∙ e)))

      f_array : found ≡ element (low row.b).value array
      f_array = f_list ∙ reach_object o _

      module _ (type : Row) (is : type ≡ row_at g.types array.declared) (third : type.kind ≡ 3) (lower-b : row.b < r)
          {y : Answer} (e : y ≡ eval_of bare g base top store row.b) where
        element_at : element (low row.b).value array ≡ index y (element_place g array type)
        element_at =
            ap (λ (z : Answer). element z array) (eval_lower _ _ _ _ _ _ _ lower-b e)
            ∙ array_index g _ y (ap (λ (z : Row). z.kind) (sym is) ∙ third)
            ∙ ap (λ (z : Row). index y (element_place g array z)) (sym is)

        at_index : worth ≡ held (index y (element_place g array type))
        at_index = at_array ∙ ap held element_at

        at_no_integer : {v : Value} → y ≡ Ok v → ((z : ℤ) → v ≡ Vs.Int z → ⊥) → worth ≡ Err St.Stuck
        unfolding content
        at_no_integer value none = at_index ∙ ap held (index_none _ value none _)

        f_index : found ≡ index y (element_place g array type)
        f_index = f_array ∙ element_at

        module _ {v : Value} {i : ℤ} (value : y ≡ Ok v) (integer : v ≡ Vs.Int i) where
          at_element : {part : Found} → part ≡ element_place g array type i → worth ≡ held part
          at_element p = at_index ∙ ap held (index_value value integer _ ∙ sym p)

          f_element : {part : Found} → part ≡ element_place g array type i → part ≡ found
          f_element p = p ∙ sym (f_index ∙ index_value value integer _)

  -- a guard: the variable, and then what it is guarded as
  module _ (kind : row.kind ≡ 4) {x : Found}
      (f : x ≡ variable_place bare g base top store row.a (row_at g.variables row.a)) where
    at_guarded : worth ≡ held (reach x (guard_place g row.b))
    unfolding meaning_by designator choose
    at_guarded = at_row 4 kind ∙ rw (← f)

    at_guarded_lost : ((p : Place) → x ≡ Ok p → ⊥) → worth ≡ lost x
    at_guarded_lost none = at_guarded ∙ lost_held none (guard_place g row.b)

    f_guarded : found ≡ reach x (guard_place g row.b)
    unfolding meaning_by designator choose
    f_guarded = f_row 4 kind ∙ rw (← f)

    at_narrowed : {whole : Place} → x ≡ Ok whole → {y : Found} → y ≡ guard_place g row.b whole → worth ≡ held y
    at_narrowed o n = at_guarded ∙ ap held (reach_object o _ ∙ sym n)

  -- a dyadic operator: the left operand, and then the right one
  module _ (kind : row.kind ≡ 5) (less : row.a < r) {x : Answer} (e : x ≡ eval_of bare g base top store row.a) where
    at_left : worth ≡ bind x (λ left. applied_to row.c left (low row.b).value)
    unfolding meaning_by choose
    at_left = at_row 5 kind ∙ rw (eval_lower _ _ _ _ _ _ _ less e)

    module _ {v : Value} (left : x ≡ Ok v) where
      at_operator : worth ≡ applied_to row.c v (low row.b).value
      at_operator = at_left ∙ bind_value left _

      module _ (no : decides row.c v ≡ false) (lower-b : row.b < r) {y : Answer}
          (f : y ≡ eval_of bare g base top store row.b) where
        at_right : worth ≡ bind y (λ right. dyadic_of row.c v right)
        unfolding applied_to choose
        at_right = at_operator ∙ rw (no, eval_lower _ _ _ _ _ _ _ lower-b f)

        at_operands : {w : Value} → y ≡ Ok w → worth ≡ dyadic_of row.c v w
        at_operands right = at_right ∙ bind_value right _

  -- a monadic operator, and an argument
  at_operand : (row.kind ≡ 6) ⊎ (row.kind ≡ 8) → (row.kind ≡ 8 → ⊥) → row.a < r → {x : Answer}
      → x ≡ eval_of bare g base top store row.a → worth ≡ bind x (λ operand. monadic_of row.c operand)
  unfolding meaning_by choose
  at_operand kind n less e =
      at_row 6 (⊎_elim (λ h. h) (λ h. absurd (n h)) kind) ∙ rw (eval_lower _ _ _ _ _ _ _ less e)

  -- a test
  at_tested : row.kind ≡ 7 → {x : Found} → x ≡ variable_place bare g base top store row.a (row_at g.variables row.a)
      → worth ≡ content x (test_of g row.b)
  unfolding meaning_by choose
  at_tested kind f = at_row 7 kind ∙ rw (← f)

-- ---- eval

-- behind both operands' values
operands : {t : ℕ} (c : eval-In-Ok-right t)
    → eval_of bare (program_of c.args.self.now.loaded.image.now) c.args.self.now.base c.args.self.now.top
    c.args.self.now.store.now c.args.r
    ≡ dyadic_of c.node_at-node.result.c c.in-Ok-left.x c.in-Ok-right.y
operands c =
    at_operands _ _ _ _ _ _ c.node_at-node.ensures c.in-5.is c.if-r-first-3.false
    (c.fresh-left.ensures ∙ c.eval-in-5.ensures) c.in-Ok-left.is (sym c.decides.ensures ∙ c.if-decides.false)
    c.if-r-second-2.false (c.fresh-right.ensures ∙ c.eval-in-5-2.ensures) c.in-Ok-right.is

pub eval-returns-in-0 : goal.eval-returns-in-0
unfolding meaning_by choose
eval-returns-in-0 t c = c.constant.ensures ∙ sym (at_row _ _ _ _ _ _ c.node_at-node.ensures 0 c.in-0.is)

pub eval-returns-in_default-variable : goal.eval-returns-in_default-variable
eval-returns-in_default-variable t c =
    c.lost.ensures
    ∙ sym (at_variable _ _ _ _ _ _ c.node_at-node.ensures c.in-1.is c.variable_place-variable.ensures
    ∙ content_other _ c.in_default-variable.not-Ok _)

pub eval-load-requires : goal.eval-load-requires
eval-load-requires t c =
    let s = c.args.self.now in
    variable_there s.loaded.planned c.in-Ok.is _ _ _ s.low _ c.variable_place-variable.ensures

pub eval-returns-in-Ok : goal.eval-returns-in-Ok
eval-returns-in-Ok t c =
    c.fresh.ensures ∙ c.load.ensures
    ∙ sym (at_variable _ _ _ _ _ _ c.node_at-node.ensures c.in-1.is c.variable_place-variable.ensures
    ∙ content_object c.in-Ok.is _)

pub eval-returns-then-r-first : goal.eval-returns-then-r-first
unfolding meaning_by designator choose content reach
eval-returns-then-r-first t c =
    sym (at_row _ _ _ _ _ _ c.node_at-node.ensures 2 c.in-2.is ∙ rw (not_lower _ _ _ _ _ _ _ c.if-r-first.true))

pub eval-returns-in_default-whole : goal.eval-returns-in_default-whole
eval-returns-in_default-whole t c =
    c.lost-in_default-whole.ensures
    ∙ sym (at_whole_lost _ _ _ _ _ _ c.node_at-node.ensures c.in-2.is c.if-r-first.false
    (c.fresh-whole.ensures ∙ c.find.ensures) c.in_default-whole.not-Ok)

pub eval-field_place-requires : goal.eval-field_place-requires
eval-field_place-requires t c =
    let s = c.args.self.now in (
      find_within s.loaded.planned s.low _ _ _ (sym (c.fresh-whole.ensures ∙ c.find.ensures) ∙ c.in-Ok-whole.is),
      rw (← c.node_at-node.ensures) c.in-2.is,
    )

pub eval-returns-in_default-part : goal.eval-returns-in_default-part
eval-returns-in_default-part t c =
    c.lost-in_default-part.ensures
    ∙ sym (at_part _ _ _ _ _ _ c.node_at-node.ensures c.in-2.is c.if-r-first.false
    (c.fresh-whole.ensures ∙ c.find.ensures) c.in-Ok-whole.is
    (c.fresh-part.ensures ∙ c.field_place.ensures)
    ∙ content_other _ c.in_default-part.not-Ok _)

pub eval-load-requires-in-2 : goal.eval-load-requires-in-2
eval-load-requires-in-2 t c =
    let s = c.args.self.now in
    field_there s.loaded.planned c.in-Ok-part.is _ _ _ (c.fresh-part.ensures ∙ c.field_place.ensures)

pub eval-returns-in-Ok-part : goal.eval-returns-in-Ok-part
eval-returns-in-Ok-part t c =
    c.fresh-in-2.ensures ∙ c.load-in-2.ensures
    ∙ sym (at_part _ _ _ _ _ _ c.node_at-node.ensures c.in-2.is c.if-r-first.false
    (c.fresh-whole.ensures ∙ c.find.ensures) c.in-Ok-whole.is
    (c.fresh-part.ensures ∙ c.field_place.ensures)
    ∙ content_object c.in-Ok-part.is _)

pub eval-returns-then-r-first-2 : goal.eval-returns-then-r-first-2
unfolding meaning_by designator choose content reach
eval-returns-then-r-first-2 t c =
    sym (at_row _ _ _ _ _ _ c.node_at-node.ensures 3 c.in-3.is ∙ rw (not_lower _ _ _ _ _ _ _ c.if-r-first-2.true))

pub eval-returns-in_default-list : goal.eval-returns-in_default-list
eval-returns-in_default-list t c =
    c.lost-in_default-list.ensures
    ∙ sym (at_list_lost _ _ _ _ _ _ c.node_at-node.ensures c.in-3.is c.if-r-first-2.false
    (c.fresh-list.ensures ∙ c.find-in-3.ensures) c.in_default-list.not-Ok)

pub eval-returns-then-row-ne3 : goal.eval-returns-then-row-ne3
eval-returns-then-row-ne3 t c =
    sym (at_no_array _ _ _ _ _ _ c.node_at-node.ensures c.in-3.is c.if-r-first-2.false
    (c.fresh-list.ensures ∙ c.find-in-3.ensures) c.in-Ok-list.is _ c.type_at-row.ensures c.if-row-ne3.true)

pub eval-returns-then-r-second : goal.eval-returns-then-r-second
unfolding content
eval-returns-then-r-second t c =
    sym (at_array _ _ _ _ _ _ c.node_at-node.ensures c.in-3.is c.if-r-first-2.false
    (c.fresh-list.ensures ∙ c.find-in-3.ensures) c.in-Ok-list.is
    ∙ rw (not_lower _ _ _ _ _ _ _ c.if-r-second.true, array_stuck _ _))

pub eval-returns-in_default-index : goal.eval-returns-in_default-index
eval-returns-in_default-index t c =
    sym (at_index _ _ _ _ _ _ c.node_at-node.ensures c.in-3.is c.if-r-first-2.false
    (c.fresh-list.ensures ∙ c.find-in-3.ensures) c.in-Ok-list.is _ c.type_at-row.ensures c.if-row-ne3.false
    c.if-r-second.false (c.fresh-index.ensures ∙ c.eval.ensures)
    ∙ index_handed _ c.in_default-index.not-Ok _ _)

pub eval-returns-in_default-value : goal.eval-returns-in_default-value
eval-returns-in_default-value t c =
    sym (at_no_integer _ _ _ _ _ _ c.node_at-node.ensures c.in-3.is c.if-r-first-2.false
    (c.fresh-list.ensures ∙ c.find-in-3.ensures) c.in-Ok-list.is _ c.type_at-row.ensures c.if-row-ne3.false
    c.if-r-second.false (c.fresh-index.ensures ∙ c.eval.ensures) c.in-Ok-index.is c.in_default-value.not-Int)

pub eval-element_place-requires : goal.eval-element_place-requires
eval-element_place-requires t c =
    let s = c.args.self.now in (
      find_within s.loaded.planned s.low _ _ _ (sym (c.fresh-list.ensures ∙ c.find-in-3.ensures) ∙ c.in-Ok-list.is),
      c.type_at-row.ensures,
      c.if-row-ne3.false,
    )

pub eval-returns-in_default-element : goal.eval-returns-in_default-element
eval-returns-in_default-element t c =
    c.lost-in_default-element.ensures
    ∙ sym (at_element _ _ _ _ _ _ c.node_at-node.ensures c.in-3.is c.if-r-first-2.false
    (c.fresh-list.ensures ∙ c.find-in-3.ensures) c.in-Ok-list.is _ c.type_at-row.ensures c.if-row-ne3.false
    c.if-r-second.false (c.fresh-index.ensures ∙ c.eval.ensures) c.in-Ok-index.is c.in-Int.is
    (c.fresh-element.ensures ∙ c.element_place.ensures ∙ ap (element_place _ _ _) (plain32 c.in-Int.i (search rules)))
    ∙ content_other _ c.in_default-element.not-Ok _)

pub eval-load-requires-in-3 : goal.eval-load-requires-in-3
eval-load-requires-in-3 t c =
    let s = c.args.self.now in
    element_there s.loaded.planned c.in-Ok-element.is _ _ c.type_at-row.ensures c.if-row-ne3.false
    (c.fresh-element.ensures ∙ c.element_place.ensures)

pub eval-returns-in-Ok-element : goal.eval-returns-in-Ok-element
eval-returns-in-Ok-element t c =
    c.fresh-in-3.ensures ∙ c.load-in-3.ensures
    ∙ sym (at_element _ _ _ _ _ _ c.node_at-node.ensures c.in-3.is c.if-r-first-2.false
    (c.fresh-list.ensures ∙ c.find-in-3.ensures) c.in-Ok-list.is _ c.type_at-row.ensures c.if-row-ne3.false
    c.if-r-second.false (c.fresh-index.ensures ∙ c.eval.ensures) c.in-Ok-index.is c.in-Int.is
    (c.fresh-element.ensures ∙ c.element_place.ensures ∙ ap (element_place _ _ _) (plain32 c.in-Int.i (search rules)))
    ∙ content_object c.in-Ok-element.is _)

pub eval-returns-in_default-guarded : goal.eval-returns-in_default-guarded
eval-returns-in_default-guarded t c =
    c.lost-in_default-guarded.ensures
    ∙ sym (at_guarded_lost _ _ _ _ _ _ c.node_at-node.ensures c.in-4.is c.variable_place-guarded.ensures
    c.in_default-guarded.not-Ok)

pub eval-returns-in_default-narrowed : goal.eval-returns-in_default-narrowed
eval-returns-in_default-narrowed t c =
    c.lost-in_default-narrowed.ensures
    ∙ sym (at_narrowed _ _ _ _ _ _ c.node_at-node.ensures c.in-4.is c.variable_place-guarded.ensures c.in-Ok-guarded.is
    c.guard_place-narrowed.ensures
    ∙ content_other _ c.in_default-narrowed.not-Ok _)

pub eval-load-requires-in-4 : goal.eval-load-requires-in-4
eval-load-requires-in-4 t c =
    let s = c.args.self.now in
    guard_there s.loaded.planned c.in-Ok-narrowed.is _ _ c.node_at-node.ensures c.in-4.is c.guard_place-narrowed.ensures

pub eval-returns-in-Ok-narrowed : goal.eval-returns-in-Ok-narrowed
eval-returns-in-Ok-narrowed t c =
    c.fresh-in-4.ensures ∙ c.load-in-4.ensures
    ∙ sym (at_narrowed _ _ _ _ _ _ c.node_at-node.ensures c.in-4.is c.variable_place-guarded.ensures c.in-Ok-guarded.is
    c.guard_place-narrowed.ensures
    ∙ content_object c.in-Ok-narrowed.is _)

pub eval-returns-then-r-first-3 : goal.eval-returns-then-r-first-3
unfolding meaning_by choose bind
eval-returns-then-r-first-3 t c =
    sym (at_row _ _ _ _ _ _ c.node_at-node.ensures 5 c.in-5.is ∙ rw (not_lower _ _ _ _ _ _ _ c.if-r-first-3.true))

pub eval-returns-in_default-left : goal.eval-returns-in_default-left
eval-returns-in_default-left t c =
    sym (at_left _ _ _ _ _ _ c.node_at-node.ensures c.in-5.is c.if-r-first-3.false
    (c.fresh-left.ensures ∙ c.eval-in-5.ensures)
    ∙ bind_other _ c.in_default-left.not-Ok _)

pub eval-returns-then-decides : goal.eval-returns-then-decides
unfolding applied_to choose
eval-returns-then-decides t c =
    sym
    (at_operator _ _ _ _ _ _ c.node_at-node.ensures c.in-5.is c.if-r-first-3.false
    (c.fresh-left.ensures ∙ c.eval-in-5.ensures) c.in-Ok-left.is
    ∙ rw (sym c.decides.ensures ∙ c.if-decides.true))

pub eval-returns-then-r-second-2 : goal.eval-returns-then-r-second-2
unfolding applied_to choose bind
eval-returns-then-r-second-2 t c =
    sym
    (at_operator _ _ _ _ _ _ c.node_at-node.ensures c.in-5.is c.if-r-first-3.false
    (c.fresh-left.ensures ∙ c.eval-in-5.ensures) c.in-Ok-left.is
    ∙ rw (sym c.decides.ensures ∙ c.if-decides.false, not_lower _ _ _ _ _ _ _ c.if-r-second-2.true))

pub eval-returns-in_default-right : goal.eval-returns-in_default-right
eval-returns-in_default-right t c =
    sym (at_right _ _ _ _ _ _ c.node_at-node.ensures c.in-5.is c.if-r-first-3.false
    (c.fresh-left.ensures ∙ c.eval-in-5.ensures) c.in-Ok-left.is (sym c.decides.ensures ∙ c.if-decides.false)
    c.if-r-second-2.false (c.fresh-right.ensures ∙ c.eval-in-5-2.ensures)
    ∙ bind_other _ c.in_default-right.not-Ok _)

pub eval-returns-in_default-y : goal.eval-returns-in_default-y
eval-returns-in_default-y t c =
    sym (operands (goal.at.eval-returns-in_default-y t c).In-Ok-right
    ∙ rw c.in-Bool.is (not_booleans _ _ _ c.in_default-y.not-Bool))

pub eval-returns-in_default-y-2 : goal.eval-returns-in_default-y-2
eval-returns-in_default-y-2 t c =
    sym (operands (goal.at.eval-returns-in_default-y-2 t c).In-Ok-right
    ∙ rw c.in-Set.is (not_sets _ _ _ c.in_default-y-2.not-Set))

pub eval-returns-in-Bool-y : goal.eval-returns-in-Bool-y
eval-returns-in-Bool-y t c =
    c.booleans.ensures
    ∙ sym (operands (goal.at.eval-returns-in-Bool-y t c).In-Ok-right
    ∙ rw (c.in-Bool.is, c.in-Bool-y.is) (two_booleans _ _ _))

pub eval-returns-in-Bool-y-2 : goal.eval-returns-in-Bool-y-2
eval-returns-in-Bool-y-2 t c =
    sym (operands (goal.at.eval-returns-in-Bool-y-2 t c).In-Ok-right
    ∙ rw (c.in-Int-x.is, c.in-Bool-y-2.is) (not_integer _ _ _))

pub eval-returns-in-Int-y : goal.eval-returns-in-Int-y
eval-returns-in-Int-y t c =
    c.integers.ensures
    ∙ sym (operands (goal.at.eval-returns-in-Int-y t c).In-Ok-right
    ∙ rw (c.in-Int-x.is, c.in-Int-y.is, plain32 c.in-Int-x.i (search rules), plain32 c.in-Int-y.j (search rules))
    (two_integers _ _ _))

pub eval-returns-in-Set-y : goal.eval-returns-in-Set-y
eval-returns-in-Set-y t c =
    c.membership.ensures
    ∙ sym (operands (goal.at.eval-returns-in-Set-y t c).In-Ok-right
    ∙ rw (c.in-Int-x.is, c.in-Set-y.is, plain32 c.in-Int-x.i (search rules)) (integer_and_set _ _ _))

pub eval-returns-in-Set-y-2 : goal.eval-returns-in-Set-y-2
eval-returns-in-Set-y-2 t c =
    c.sets.ensures
    ∙ sym (operands (goal.at.eval-returns-in-Set-y-2 t c).In-Ok-right
    ∙ rw (c.in-Set.is, c.in-Set-y-2.is) (two_sets _ _ _))

pub eval-returns-then-r-first-4 : goal.eval-returns-then-r-first-4
unfolding meaning_by choose bind
eval-returns-then-r-first-4 t c =
    let node = c.node_at-node.ensures in
    sym (⊎_elim (λ e. at_row _ _ _ _ _ _ node 6 e ∙ rw (not_lower _ _ _ _ _ _ _ c.if-r-first-4.true))
    (λ e. at_row _ _ _ _ _ _ node 8 e ∙ rw (not_lower _ _ _ _ _ _ _ c.if-r-first-4.true)) c.in-6.is)

pub eval-returns-then-node-eq8 : goal.eval-returns-then-node-eq8
unfolding meaning_by choose
eval-returns-then-node-eq8 t c =
    sym
    (at_row _ _ _ _ _ _ c.node_at-node.ensures 8 c.if-node-eq8.true
    ∙ eval_lower _ _ _ _ _ _ _ c.if-r-first-4.false (c.fresh-operand.ensures ∙ c.eval-in-6.ensures))

pub eval-returns-in_default-operand : goal.eval-returns-in_default-operand
eval-returns-in_default-operand t c =
    sym (at_operand _ _ _ _ _ _ c.node_at-node.ensures c.in-6.is c.if-node-eq8.false c.if-r-first-4.false
    (c.fresh-operand.ensures ∙ c.eval-in-6.ensures)
    ∙ bind_other _ c.in_default-operand.not-Ok _)

pub eval-returns-in-Ok-operand : goal.eval-returns-in-Ok-operand
eval-returns-in-Ok-operand t c =
    c.fresh-in-6.ensures ∙ c.monadic.ensures
    ∙ sym (at_operand _ _ _ _ _ _ c.node_at-node.ensures c.in-6.is c.if-node-eq8.false c.if-r-first-4.false
    (c.fresh-operand.ensures ∙ c.eval-in-6.ensures)
    ∙ bind_value c.in-Ok-operand.is _)

pub eval-returns-in_default-tested : goal.eval-returns-in_default-tested
eval-returns-in_default-tested t c =
    c.lost-in_default-tested.ensures
    ∙ sym (at_tested _ _ _ _ _ _ c.node_at-node.ensures c.in-7.is c.variable_place-tested.ensures
    ∙ content_other _ c.in_default-tested.not-Ok _)

pub eval-returns-in-Ok-tested : goal.eval-returns-in-Ok-tested
eval-returns-in-Ok-tested t c =
    c.type_test.ensures
    ∙ sym (at_tested _ _ _ _ _ _ c.node_at-node.ensures c.in-7.is c.variable_place-tested.ensures
    ∙ content_object c.in-Ok-tested.is _)

pub eval-returns-in_default : goal.eval-returns-in_default
unfolding meaning_by choose
eval-returns-in_default t c =
    let n = c.in_default.in_default-own.rest in
    let k : ℕ = c.node_at-node.result.kind in
    sym (at_row _ _ _ _ _ _ c.node_at-node.ensures k refl
    ∙ rw (
      ne_eqb k 0 n.0.0.0.0.0.0.0.1,
      ne_eqb k 1 n.0.0.0.0.0.0.1,
      ne_eqb k 2 n.0.0.0.0.0.1,
      ne_eqb k 3 n.0.0.0.0.1,
      ne_eqb k 4 n.0.0.0.1,
      ne_eqb k 5 n.0.0.1,
      ne_eqb k 6 (λ e. n.0.1 (inl e)),
      ne_eqb k 7 n.1,
      ne_eqb k 8 (λ e. n.0.1 (inr e)),
    ))

-- ---- find

pub find-returns-in-1 : goal.find-returns-in-1
unfolding meaning_by designator choose
find-returns-in-1 t c =
    c.variable_place.ensures ∙ sym (f_row _ _ _ _ _ _ c.node_at-node.ensures 1 c.in-1.is)

pub find-returns-then-r-first : goal.find-returns-then-r-first
unfolding meaning_by designator choose reach
find-returns-then-r-first t c =
    sym (f_row _ _ _ _ _ _ c.node_at-node.ensures 2 c.in-2.is ∙ rw (not_lower _ _ _ _ _ _ _ c.if-r-first.true))

pub find-returns-in_default-whole : goal.find-returns-in_default-whole
find-returns-in_default-whole t c =
    sym (f_whole _ _ _ _ _ _ c.node_at-node.ensures c.in-2.is c.if-r-first.false
    (c.fresh-whole.ensures ∙ c.find.ensures)
    ∙ reach_other _ c.in_default-whole.not-Ok _)

pub find-field_place-requires : goal.find-field_place-requires
find-field_place-requires t c =
    let s = c.args.self.now in (
      find_within s.loaded.planned s.low _ _ _ (sym (c.fresh-whole.ensures ∙ c.find.ensures) ∙ c.in-Ok.is),
      rw (← c.node_at-node.ensures) c.in-2.is,
    )

pub find-returns-in-Ok : goal.find-returns-in-Ok
find-returns-in-Ok t c =
    f_part _ _ _ _ _ _ c.node_at-node.ensures c.in-2.is c.if-r-first.false
    (c.fresh-whole.ensures ∙ c.find.ensures) c.in-Ok.is (c.fresh.ensures ∙ c.field_place.ensures)

pub find-returns-then-r-first-2 : goal.find-returns-then-r-first-2
unfolding meaning_by designator choose reach
find-returns-then-r-first-2 t c =
    sym (f_row _ _ _ _ _ _ c.node_at-node.ensures 3 c.in-3.is ∙ rw (not_lower _ _ _ _ _ _ _ c.if-r-first-2.true))

pub find-returns-in_default-list : goal.find-returns-in_default-list
find-returns-in_default-list t c =
    sym (f_list _ _ _ _ _ _ c.node_at-node.ensures c.in-3.is c.if-r-first-2.false
    (c.fresh-list.ensures ∙ c.find-in-3.ensures)
    ∙ reach_other _ c.in_default-list.not-Ok _)

pub find-returns-then-row-ne3 : goal.find-returns-then-row-ne3
find-returns-then-row-ne3 t c =
    sym (f_array _ _ _ _ _ _ c.node_at-node.ensures c.in-3.is c.if-r-first-2.false
    (c.fresh-list.ensures ∙ c.find-in-3.ensures) c.in-Ok-list.is
    ∙ array_none _ _ _ (λ e. c.if-row-ne3.true (ap (λ (x : Row). x.kind) c.type_at-row.ensures ∙ e)))

pub find-returns-then-r-second : goal.find-returns-then-r-second
find-returns-then-r-second t c =
    sym (f_array _ _ _ _ _ _ c.node_at-node.ensures c.in-3.is c.if-r-first-2.false
    (c.fresh-list.ensures ∙ c.find-in-3.ensures) c.in-Ok-list.is
    ∙ rw (not_lower _ _ _ _ _ _ _ c.if-r-second.true, array_stuck _ _))

pub find-returns-in_default-index : goal.find-returns-in_default-index
find-returns-in_default-index t c =
    c.lost.ensures
    ∙ sym (f_index _ _ _ _ _ _ c.node_at-node.ensures c.in-3.is c.if-r-first-2.false
    (c.fresh-list.ensures ∙ c.find-in-3.ensures) c.in-Ok-list.is _ c.type_at-row.ensures c.if-row-ne3.false
    c.if-r-second.false (c.fresh-index.ensures ∙ c.eval.ensures)
    ∙ index_other _ c.in_default-index.not-Ok _)

pub find-returns-in_default-value : goal.find-returns-in_default-value
find-returns-in_default-value t c =
    sym (f_index _ _ _ _ _ _ c.node_at-node.ensures c.in-3.is c.if-r-first-2.false
    (c.fresh-list.ensures ∙ c.find-in-3.ensures) c.in-Ok-list.is _ c.type_at-row.ensures c.if-row-ne3.false
    c.if-r-second.false (c.fresh-index.ensures ∙ c.eval.ensures)
    ∙ index_none _ c.in-Ok-index.is c.in_default-value.not-Int _)

pub find-element_place-requires : goal.find-element_place-requires
find-element_place-requires t c =
    let s = c.args.self.now in (
      find_within s.loaded.planned s.low _ _ _ (sym (c.fresh-list.ensures ∙ c.find-in-3.ensures) ∙ c.in-Ok-list.is),
      c.type_at-row.ensures,
      c.if-row-ne3.false,
    )

pub find-returns-in-Int : goal.find-returns-in-Int
find-returns-in-Int t c =
    f_element _ _ _ _ _ _ c.node_at-node.ensures c.in-3.is c.if-r-first-2.false
    (c.fresh-list.ensures ∙ c.find-in-3.ensures) c.in-Ok-list.is _ c.type_at-row.ensures c.if-row-ne3.false
    c.if-r-second.false (c.fresh-index.ensures ∙ c.eval.ensures) c.in-Ok-index.is c.in-Int.is
    (c.fresh-in-3.ensures ∙ c.element_place.ensures ∙ ap (element_place _ _ _) (plain32 c.in-Int.i (search rules)))

pub find-returns-in_default-guarded : goal.find-returns-in_default-guarded
find-returns-in_default-guarded t c =
    sym (f_guarded _ _ _ _ _ _ c.node_at-node.ensures c.in-4.is c.variable_place-guarded.ensures
    ∙ reach_other _ c.in_default-guarded.not-Ok _)

pub find-returns-in-Ok-guarded : goal.find-returns-in-Ok-guarded
find-returns-in-Ok-guarded t c =
    c.guard_place.ensures
    ∙ sym (f_guarded _ _ _ _ _ _ c.node_at-node.ensures c.in-4.is c.variable_place-guarded.ensures
    ∙ reach_object c.in-Ok-guarded.is _)

pub find-returns-then-r-first-3 : goal.find-returns-then-r-first-3
unfolding meaning_by choose
find-returns-then-r-first-3 t c =
    sym (f_row _ _ _ _ _ _ c.node_at-node.ensures 8 c.in-8.is ∙ rw (not_lower _ _ _ _ _ _ _ c.if-r-first-3.true))

pub find-returns-else-r-first-3 : goal.find-returns-else-r-first-3
unfolding meaning_by choose
find-returns-else-r-first-3 t c =
    sym
    (f_row _ _ _ _ _ _ c.node_at-node.ensures 8 c.in-8.is
    ∙ find_lower _ _ _ _ _ _ _ c.if-r-first-3.false (c.fresh-in-8.ensures ∙ c.find-in-8.ensures))

pub find-returns-in_default : goal.find-returns-in_default
find-returns-in_default t c =
    let n = c.in_default.in_default-own.rest in
    sym (find_other _ _ _ _ _ _ c.node_at-node.result c.node_at-node.ensures n.0.0.0.0.1 n.0.0.0.1 n.0.0.1 n.0.1 n.1)
