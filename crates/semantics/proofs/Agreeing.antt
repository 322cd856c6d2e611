-- What the two memories give of the same numbers: the bare one's answer is the tagged one's, where that is not stuck.
use mathlib.Core.Path.{◌≡◌, refl, sym, ap, ◌∙◌}
use mathlib.Core.Bool.{Bool, true, false}
use mathlib.Core.List.{List, [], ◌∷◌, ◌++◌, map, map-map}
use Prim.Native.Nat.{ℕ, zero, suc, ◌+◌, ◌<◌, ◌≤◌}
use native.Mathlib.Omega.{arith}
use native.Mathlib.Decide.{dec_lt}
use lib.IntN.{ℤ, pos}
use lib.ListN.{length, take, drop, replicate, get_or-map, length-map}
use Rattle.prelude.specs.Choice.{choose}
use Rattle.prelude.proofs.Rec.{rec_rel}
use Rattle.prelude.proofs.Parts.{take_map, map_append}
use Rattle.image.specs.declared.Row.{Row}
use Rattle.image.specs.Rows.{row_at}
use Rattle.shapes.specs.Forms.{kind_in}
use Rattle.values.specs.Values.{bind, Answer}
use Rattle.values.specs.declared.Value.{Value}
use Rattle.values.specs.declared.Stop.TheVariants as St
use Rattle.operators.specs.Operators.{applied_to}
use Rattle.semantics.specs.declared.Place.{Place}
use Rattle.semantics.specs.Memory.{ADDRESS, TYPE, Cell, tagged, bare, cell_at, Mark}
use Rattle.semantics.specs.Memory.{value_at, mark_at, part_at, overwrite}
use Rattle.semantics.specs.Layout.{Program, place_of}
use Rattle.semantics.specs.Finding.{reach, content, index, with_mark, parameter_place, variable_place, array_place}
use Rattle.semantics.specs.Finding.{Meaning, no_meaning, expression, designator, meaning_by, Found}
use Rattle.semantics.specs.Finding.{meaning_of, find_of, eval_of}
use Rattle.std.specs.Prelude.{Ok, Err, Some, None}

-- ---- agreement

-- the first is stuck (`none`), or the two are the same
pub data Agrees {X : Type 0} (none : X) : X → X → Type 0 where
  lost : {y : X} → Agrees none none y
  same : {x : X} → Agrees none x x

abbrev pub Answers : Answer → Answer → Type 0
Answers = Agrees (Err St.Stuck)

abbrev pub Founds : Found → Found → Type 0
Founds = Agrees (Err St.Stuck)

abbrev pub Marks : Mark → Mark → Type 0
Marks = Agrees None

-- what a node means, place and value
pub record Meanings (x y : Meaning) : Type 0 where
  pub place : Founds x.place y.place
  pub value : Answers x.value y.value

-- a choice by one test keeps any relation
pub choose_rel : {X Y : Type 0} (R : X → Y → Type 0) (b : Bool) {x y : X} {x' y' : Y} → R x x' → R y y'
    → R (choose b x y) (choose b x' y')
unfolding choose
choose_rel R true p q = p
choose_rel R false p q = q

agrees_or : {X : Type 0} {none : X} (b : Bool) (x : X) → Agrees none (choose b x none) x
unfolding choose
agrees_or true x = same
agrees_or false x = lost

-- ---- one law for each way to go on

pub agrees_bind : {x y : Answer} (k l : Value → Answer) → Answers x y → ((v : Value) → Answers (k v) (l v))
    → Answers (bind x k) (bind y l)
unfolding bind
agrees_bind k l lost f = lost
agrees_bind k l (same {x = Ok v}) f = f v
agrees_bind k l (same {x = Err (St.Trap t)}) f = same
agrees_bind k l (same {x = Err St.Stuck}) f = lost

pub agrees_reach : {x y : Found} (k l : Place → Found) → Founds x y → ((p : Place) → Founds (k p) (l p))
    → Founds (reach x k) (reach y l)
unfolding reach
agrees_reach k l lost f = lost
agrees_reach k l (same {x = Ok p}) f = f p
agrees_reach k l (same {x = Err (St.Trap t)}) f = same
agrees_reach k l (same {x = Err St.Stuck}) f = lost

pub agrees_content : {x y : Found} (k l : Place → Answer) → Founds x y → ((p : Place) → Answers (k p) (l p))
    → Answers (content x k) (content y l)
unfolding content
agrees_content k l lost f = lost
agrees_content k l (same {x = Ok p}) f = f p
agrees_content k l (same {x = Err (St.Trap t)}) f = same
agrees_content k l (same {x = Err St.Stuck}) f = lost

pub agrees_index : {x y : Answer} (k : ℤ → Found) → Answers x y → Founds (index x k) (index y k)
unfolding index
agrees_index k lost = lost
agrees_index k same = same

pub agrees_mark : {x y : Mark} (k l : ℕ → Found) → Marks x y → ((n : ℕ) → Founds (k n) (l n))
    → Founds (with_mark x k) (with_mark y l)
unfolding with_mark
agrees_mark k l lost f = lost
agrees_mark k l (same {x = Some n}) f = f n
agrees_mark k l (same {x = None}) f = lost

-- the right operand may be lost where the left one decides
pub agrees_applied : (op : ℕ) (v : Value) {x y : Answer} → Answers x y → Answers (applied_to op v x) (applied_to op v y)
unfolding applied_to
agrees_applied op v h = choose_rel Answers _ same (agrees_bind _ _ h (λ w. same))

-- ---- cells

-- the numbers of cells
abbrev pub numbers : List Cell → List ℤ
numbers cells = map tagged.number cells

-- the two places where the memories differ
pub held_agrees : (kind : ℕ) (c : Cell) → Answers (tagged.held kind c) (bare.held kind (tagged.number c))
unfolding tagged bare
held_agrees kind c = agrees_or _ _

pub marked_agrees : (kind : ℕ) (c : Cell) → Marks (tagged.marked kind c) (bare.marked kind (tagged.number c))
unfolding tagged bare
marked_agrees kind c = agrees_or _ _

pub cell_number : (cells : List Cell) (a : ℕ) → cell_at bare (numbers cells) a ≡ tagged.number (cell_at tagged cells a)
unfolding cell_at tagged bare
cell_number cells a = get_or-map tagged.number cells a (tagged.loose (pos 0))

pub value_agrees : (top : ℕ) (cells : List Cell) (kind a : ℕ)
    → Answers (value_at tagged top cells kind a) (value_at bare top (numbers cells) kind a)
unfolding value_at
value_agrees top cells kind a =
    choose_rel Answers _ (rw (cell_number cells a) (held_agrees kind (cell_at tagged cells a))) lost

pub mark_agrees : (top : ℕ) (cells : List Cell) (kind a : ℕ)
    → Marks (mark_at tagged top cells kind a) (mark_at bare top (numbers cells) kind a)
unfolding mark_at
mark_agrees top cells kind a =
    choose_rel Marks _ (rw (cell_number cells a) (marked_agrees kind (cell_at tagged cells a))) lost

drop_map : {X Y : Type 0} (f : X → Y) (n : ℕ) (l : List X) → drop n (map f l) ≡ map f (drop n l)
drop_map f zero l = refl
drop_map f (suc n) [] = refl
drop_map f (suc n) (x ∷ l) = drop_map f n l

pub part_numbers : (cells : List Cell) (a n : ℕ) → part_at (numbers cells) a n ≡ numbers (part_at cells a n)
unfolding part_at
part_numbers cells a n = ap (take n) (drop_map tagged.number a cells) ∙ take_map tagged.number n (drop a cells)

pub overwrite_numbers : (cells : List Cell) (a : ℕ) (new : List Cell)
    → overwrite (numbers cells) a (numbers new) ≡ numbers (overwrite cells a new)
unfolding overwrite
overwrite_numbers cells a new =
    rw (length-map new tagged.number)
    (rw (drop_map tagged.number (a + length new) cells, take_map tagged.number a cells)
    (sym (map_append tagged.number (take a cells) (new ++ drop (a + length new) cells)
    ∙ ap (λ l. numbers (take a cells) ++ l) (map_append tagged.number new (drop (a + length new) cells)))))

pub put_number : (v : Value) → bare.put v ≡ tagged.number (tagged.put v)
unfolding tagged bare
put_number v = refl

pub mark_number_lem : (kind n : ℕ) → bare.mark kind n ≡ tagged.number (tagged.mark kind n)
unfolding tagged bare
mark_number_lem kind n = refl

pub blank_numbers : (kinds : List ℕ) → map bare.blank kinds ≡ numbers (map tagged.blank kinds)
unfolding tagged bare
blank_numbers kinds = sym (map-map tagged.number tagged.blank kinds)

-- blank numbers are zero
pub blank_zeros : (kinds : List ℕ) → map bare.blank kinds ≡ replicate (length kinds) (pos 0)
unfolding bare
blank_zeros [] = refl
blank_zeros (k ∷ kinds) = ap (λ (l : List ℤ). pos 0 ∷ l) (blank_zeros kinds)

pub loose_numbers : (l : List ℤ) → map bare.loose l ≡ numbers (map tagged.loose l)
unfolding tagged bare
loose_numbers l = sym (map-map tagged.number tagged.loose l)

-- ---- every node

array_agrees : (g : Program) (whole : Place) {x y : Answer} → Answers x y
    → Founds (array_place g whole x) (array_place g whole y)
unfolding array_place
array_agrees g whole h = choose_rel Founds _ (agrees_index _ h) lost

expression_agrees : {x y : Answer} → Answers x y → Meanings (expression x) (expression y)
expression_agrees h = record { place = lost; value = h }

module _ (g : Program) (base top : ℕ) (cells : List Cell) where
  parameter_agrees : (a r : ℕ)
      → Founds (parameter_place tagged top cells a r) (parameter_place bare top (numbers cells) a r)
  unfolding parameter_place
  parameter_agrees a r =
      agrees_mark _ _ (mark_agrees top cells ADDRESS a) (λ address.
      agrees_mark _ _ (mark_agrees top cells TYPE (a + 1)) (λ dynamic. same))

  variable_agrees : (a : ℕ) (row : Row)
      → Founds (variable_place tagged g base top cells a row) (variable_place bare g base top (numbers cells) a row)
  unfolding variable_place
  variable_agrees a row =
      choose_rel Founds _ same (choose_rel Founds _ same
      (choose_rel Founds _ (parameter_agrees (base + place_of g a) row.a) lost))

  designator_agrees : {x y : Found} → Founds x y
      → Meanings (designator tagged g top cells x) (designator bare g top (numbers cells) y)
  unfolding designator
  designator_agrees h = record {
    place = h;
    value = agrees_content _ _ h (λ place.
        value_agrees top cells (kind_in g.types place.declared) place.address);
  }

  meaning_by_agrees : (child child' : ℕ → Meaning) → ((k : ℕ) → Meanings (child k) (child' k)) → (kind : ℕ) (row : Row)
      → Meanings (meaning_by tagged g base top cells child kind row)
      (meaning_by bare g base top (numbers cells) child' kind row)
  unfolding meaning_by
  meaning_by_agrees child child' h kind row =
      let variable = variable_agrees row.a (row_at g.variables row.a) in
      choose_rel Meanings _ (expression_agrees same)
      (choose_rel Meanings _ (designator_agrees variable)
      (choose_rel Meanings _ (designator_agrees (agrees_reach _ _ (h row.a).place (λ whole. same)))
      (choose_rel Meanings _ (designator_agrees (agrees_reach _ _ (h row.a).place (λ whole.
      array_agrees g whole (h row.b).value)))
      (choose_rel Meanings _ (designator_agrees (agrees_reach _ _ variable (λ place. same)))
      (choose_rel Meanings _ (expression_agrees (agrees_bind _ _ (h row.a).value (λ left.
      agrees_applied row.c left (h row.b).value)))
      (choose_rel Meanings _ (expression_agrees (agrees_bind _ _ (h row.a).value (λ operand. same)))
      (choose_rel Meanings _ (expression_agrees (agrees_content _ _ variable (λ place. same)))
      (choose_rel Meanings _ (h row.a) (expression_agrees lost)))))))))

-- the rows below by what was shown of them, the others since no meaning agrees with itself
every : (r : ℕ) (x y : ℕ → Meaning) → ((k : ℕ) → k < r → Meanings (x k) (y k))
    → ((k : ℕ) → r ≤ k → (x k ≡ no_meaning) × (y k ≡ no_meaning))
    → (k : ℕ) → Meanings (x k) (y k)
every r x y low high k = go (dec_lt k r)
  where
    go : Dec (k < r) → Meanings (x k) (y k)
    go (yes l) = low k l
    go (no l) = let (p, q) = high k (omega arith) in rw (p, q) (record { place = lost; value = lost })

pub meaning_agrees : (g : Program) (base top : ℕ) (cells : List Cell) (r : ℕ)
    → Meanings (meaning_of tagged g base top cells r) (meaning_of bare g base top (numbers cells) r)
unfolding meaning_of
meaning_agrees g base top cells r =
    rec_rel no_meaning no_meaning
    (λ child k. meaning_by tagged g base top cells child (row_at g.nodes k).kind (row_at g.nodes k))
    (λ child k. meaning_by bare g base top (numbers cells) child (row_at g.nodes k).kind (row_at g.nodes k))
    (λ k x y. Meanings x y)
    (λ k x y low high. meaning_by_agrees g base top cells x y (every k x y low high) _ _) r

pub find_agrees : (g : Program) (base top : ℕ) (cells : List Cell) (r : ℕ)
    → Founds (find_of tagged g base top cells r) (find_of bare g base top (numbers cells) r)
unfolding find_of
find_agrees g base top cells r = (meaning_agrees g base top cells r).place

pub eval_agrees : (g : Program) (base top : ℕ) (cells : List Cell) (r : ℕ)
    → Answers (eval_of tagged g base top cells r) (eval_of bare g base top (numbers cells) r)
unfolding eval_of
eval_agrees g base top cells r = (meaning_agrees g base top cells r).value
