-- Each statement but the call, from a sound state: it goes on to a sound state, finishes, or ends in a trap.
use mathlib.Core.Path.{◌≡◌, refl, sym, ◌∙◌, ap, subst}
use mathlib.Core.Bool.{Bool, true, false}
use mathlib.Core.List.{List, [], ◌∷◌}
use Prim.Native.Nat.{ℕ, ◌+◌, ◌≤◌, ◌<◌}
use native.Mathlib.Omega.{arith}
use borrow.Author.Tests.{eqb-false, le-leb}
use lib.IntN.{ℤ, pos}
use lib.ListN.{length, take, get_or, length-set}
use Rattle.prelude.specs.Choice.{choose}
use Rattle.prelude.specs.Parts.{joined, Part}
use Rattle.prelude.proofs.Choice.{choose_yes, clash}
use Rattle.prelude.proofs.Parts.{part_back}
use Rattle.image.specs.declared.Row.{Row}
use Rattle.image.specs.Rows.{Bytes, row_at, rows_of}
use Rattle.shapes.specs.Forms.{form, kind_in, is_single}
use Rattle.shapes.specs.Sizes.{size_of}
use Rattle.relations.specs.Extends.{extends}
use Rattle.relations.proofs.Extension.{extends_refl}
use Rattle.values.specs.Values.{BOOLEAN, INTEGER, Scalar, Scalar.a_boolean, Scalar.an_integer, kind_of, is_integer}
use Rattle.values.specs.Values.{InRange, InRange.integer, Gives, Gives.value, Gives.trapped as gives_trap, Answer}
use Rattle.values.specs.declared.Value.{Value}
use Rattle.values.specs.declared.Value.TheVariants as Vs
use Rattle.values.proofs.Cells.{cell_back}
use Rattle.values.proofs.Cases.{boolean_only, integer_only}
use Rattle.values.proofs.Scalars.{below_scalar}
use Rattle.kinds.proofs.Scalars.{dyadic_scalar, monadic_scalar}
use Rattle.nodes.specs.Nodes.{is_designator}
use Rattle.nodes.proofs.Accepted.{Plain, constant_is}
use Rattle.typing.specs.Typing.{type_of}
use Rattle.typing.proofs.Accepted.{NodeTyped, NodeTyped.by_constant, NodeTyped.by_variable, NodeTyped.by_field}
use Rattle.typing.proofs.Accepted.{NodeTyped.by_element, NodeTyped.by_guard, NodeTyped.by_dyadic}
use Rattle.typing.proofs.Accepted.{NodeTyped.by_monadic, NodeTyped.by_test, NodeTyped.by_argument, typed_node}
use Rattle.typing.proofs.Accepted.{type_low}
use Rattle.owners.specs.Owners.{own_below}
use Rattle.statements.specs.Statements.{procedure_at}
use Rattle.statements.proofs.Bodies.{InBody, end_within, body_only}
use Rattle.statements.proofs.Accepted.{StatementRow, StatementRow.is_assign, StatementRow.is_call}
use Rattle.statements.proofs.Accepted.{StatementRow.is_jump, StatementRow.is_goto, StatementRow.is_return}
use Rattle.statements.proofs.Accepted.{StatementRow.is_read, StatementRow.is_write, StatementRow.is_halt, AssignRow}
use Rattle.statements.proofs.Accepted.{JumpRow, GotoRow, ReadRow, ValueRow, Target, target_in, behind_in, no_end}
use Rattle.rules.proofs.Accepted.{assign_ruled, jump_ruled, read_ruled, write_ruled, halt_ruled}
use Rattle.checker.proofs.Accepted.{AcceptedTables}
use Rattle.semantics.specs.declared.Place.{Place}
use Rattle.semantics.specs.Memory.{LINK, Cell, tagged, mark_at, part_at, overwrite, Mark}
use Rattle.semantics.specs.Layout.{Program}
use Rattle.semantics.specs.Finding.{find_of, eval_of, Found}
use Rattle.semantics.specs.Stepping.{State, Next, Next.goes, on_place, on_value, on_mark}
use Rattle.semantics.specs.Stepping.{go_to, following, with_cells, written, on_part, copied, assigned, jumped}
use Rattle.semantics.specs.Stepping.{returned, input_at, after_read, received, sent, halted, perform, step_of}
use Rattle.semantics.specs.Sound.{Want, any_value, exactly, Fits, fits_value, Matched, no_more, one_more, Frame}
use Rattle.semantics.specs.Sound.{Inside, Object, Sound, is_first, is_called, Stack, a_frame, wants, frame_wants}
use Rattle.semantics.proofs.Holding.{part_start, part_next, part_end, matched_length, matched_part}
use Rattle.semantics.proofs.Holding.{matched_put, put_below, put_length, part_below}
use Rattle.semantics.proofs.Objects.{values_length}
use Rattle.semantics.proofs.Kinship.{extends_single, single_extends}
use Rattle.semantics.proofs.Evaluating.{FoundOk, found_ok, found_trap, Designates, itself, find_ok, eval_ok}
use Rattle.semantics.proofs.Evaluating.{found_front, found_single, kind_row, row_single, designator_yes, mark_there}
use Rattle.semantics.proofs.Evaluating.{part_top}
use Rattle.semantics.specs.Demand3.{Unchanged, NextOk, ok_goes, ok_finished, ok_trapped}
use Rattle.std.specs.Prelude.{Some}

-- ---- what a step comes to, by the way it goes on

module _ (g : Program) (s : State Cell) where
  pub unchanged : Unchanged s s
  unchanged = record { registers = refl; below = refl; cells = refl; output = refl }

  pub ok_choose : (b : Bool) {x y : Next Cell} → (b ≡ true → NextOk g s x) → (b ≡ false → NextOk g s y)
      → NextOk g s (choose b x y)
  unfolding choose
  ok_choose true f h = f refl
  ok_choose false f h = h refl

  -- the first of two, where its test holds
  pub ok_yes : (b : Bool) {x : Next Cell} (y : Next Cell) → b ≡ true → NextOk g s x → NextOk g s (choose b x y)
  ok_yes b {x} y e h = rw (choose_yes b x y e) h

  -- to one of two states
  ok_either : (b : Bool) {x y : State Cell} → NextOk g s (goes x) → NextOk g s (goes y)
      → NextOk g s (goes (choose b x y))
  unfolding choose
  ok_either true h k = h
  ok_either false h k = k

  -- after cells above top were written
  module _ {s' : State Cell} (same : Unchanged s s') where
    pub on_place_ok : {fs : List Frame} {x : ℕ} {m : Found} (k : Place → Next Cell) → FoundOk g fs x m
        → ((place : Place) → place.declared ≡ x → extends g.types place.dynamic place.declared ≡ true
        → Object g fs place.address place.dynamic → NextOk g s (k place))
        → NextOk g s (on_place s' m k)
    unfolding on_place
    on_place_ok k (found_ok {place = place} declared extended object) f = f place declared extended object
    on_place_ok k found_trap f = ok_trapped same

    pub on_value_ok : {x : ℕ} {m : Answer} (k : Value → Next Cell) → Gives x m
        → ((v : Value) → kind_of v ≡ x → InRange v → NextOk g s (k v)) → NextOk g s (on_value s' m k)
    unfolding on_value
    on_value_ok k (value {v = v} kind range) f = f v kind range
    on_value_ok k gives_trap f = ok_trapped same

  pub on_mark_ok : {m : Mark} {n : ℕ} (k : ℕ → Next Cell) → m ≡ Some n → NextOk g s (k n) → NextOk g s (on_mark s m k)
  unfolding on_mark
  on_mark_ok k e h = rw e h

-- ---- cells

first_cells : (cells : List Cell) (n : ℕ) → part_at cells 0 n ≡ take n cells
unfolding part_at
first_cells cells n = refl

-- a value in its range, put, fits a place of its kind
pub put_fits : (v : Value) (k : ℕ) → kind_of v ≡ k → InRange v → Fits (tagged.put v) (any_value k)
unfolding tagged
put_fits v k e range = rw (← e) (fits_value refl (cell_back range))

-- an input is an INTEGER
input_range : (input : List ℤ) (i : ℕ) → is_integer (input_at input i) ≡ true
unfolding input_at is_integer choose
input_range input i = go (is_integer (get_or input i (pos 0))) (get_or input i (pos 0)) refl
  where
    go : (b : Bool) (z : ℤ) → is_integer z ≡ b → is_integer (choose b z (pos 0)) ≡ true
    go true z e = e
    go false z e = refl

-- ---- objects and nodes of accepted tables

module _ (g : Program)
    (ok : AcceptedTables g.types g.fields g.variables g.procedures g.nodes g.statements) where
  -- a node's type is a row
  pub typed_low : (r x : ℕ) → type_of g.types g.fields g.variables g.nodes r ≡ Some x
      → x < rows_of g.types
  typed_low r x e =
      let said = ok.questions in
      type_low g.types g.fields g.variables g.nodes
      said.types ok.scalars said.variables said.nodes r x e

  -- "Assign: target, source": a source of a structured type is a designator
  pub structured_designator : (r x : ℕ) → Plain g.nodes r
      → type_of g.types g.fields g.variables g.nodes r ≡ Some x → (is_single g.types x ≡ true → ⊥)
      → is_designator g.nodes r ≡ true
  structured_designator r x plain type structured =
      go (typed_node g.types g.fields g.variables g.nodes ok.questions.nodes r plain.within type)
    where
      no_single : {C : Type 0} → Scalar x → C
      no_single scalar = absurd (structured (row_single g ok scalar))

      go : NodeTyped g.types g.fields g.variables g.nodes r x → is_designator g.nodes r ≡ true
      go (by_constant k e) =
          let said = ok.questions.nodes in
          let low = (constant_is g.types g.variables g.nodes said r plain.within k).typed in
          no_single (below_scalar x (omega arith))
      go (by_variable k e) =
          designator_yes (record { within = plain.within; least = omega arith; most = omega arith })
      go (by_field k e) = designator_yes (record { within = plain.within; least = omega arith; most = omega arith })
      go (by_element k e) = designator_yes (record { within = plain.within; least = omega arith; most = omega arith })
      go (by_guard k e) = designator_yes (record { within = plain.within; least = omega arith; most = omega arith })
      go (by_dyadic k e) =
          no_single (dyadic_scalar (row_at g.nodes r).c _ _ x e.result).given_scalar
      go (by_monadic k e) =
          no_single (monadic_scalar (row_at g.nodes r).c _ x e.result).1
      go (by_test k e) = no_single (rw e.boolean a_boolean)
      go (by_argument k e) = absurd (plain.plain k)

-- ---- the newest frame is left

module _ (g : Program) (f : Frame) (fs : List Frame) where
  frame_part : Part (wants g (f ∷ fs)) (length (wants g fs)) (frame_wants g f)
  unfolding wants
  frame_part = part_back (wants g fs) (frame_wants g f)

  older_part : Part (wants g (f ∷ fs)) 0 (wants g fs)
  unfolding wants
  older_part = part_start (wants g fs) (frame_wants g f)

  back_part : Part (wants g (f ∷ fs)) (length (wants g fs) + 1)
      (exactly LINK f.back ∷ exactly LINK f.callers_base ∷ joined f.slots)
  unfolding frame_wants
  back_part = part_next frame_part

  base_part : Part (wants g (f ∷ fs)) (length (wants g fs) + 2) (exactly LINK f.callers_base ∷ joined f.slots)
  base_part =
      let e : length (wants g fs) + 1 + 1 ≡ length (wants g fs) + 2 = omega arith in rw e at (part_next back_part)

-- ---- from a sound state

module _ (g : Program)
    (ok : AcceptedTables g.types g.fields g.variables g.procedures g.nodes g.statements)
    (bytes : Bytes g.nodes) (s : State Cell) (sound : Sound g s) where
  abbrev row : Row
  row = row_at g.statements s.at.row

  abbrev frames : List Frame
  frames = sound.newest ∷ sound.others

  abbrev own_procedure : ℕ
  own_procedure = sound.newest.procedure

  abbrev here : ℕ
  here = procedure_at g.procedures s.at.row

  abbrev found : ℕ → Found
  found r = find_of tagged g s.at.base s.at.top s.cells r

  abbrev answer : ℕ → Answer
  answer r = eval_of tagged g s.at.base s.at.top s.cells r

  -- ---- its row

  pub row_within : s.at.row < rows_of g.statements
  row_within =
      let low = sound.inside.end in
      let last = end_within g.variables g.procedures g.statements ok.procedures in
      let high = last own_procedure sound.inside.procedure in
      omega arith

  -- the top frame's procedure is the one whose body has the row
  pub procedure_is : own_procedure ≡ here
  procedure_is =
      body_only g.variables g.procedures g.statements ok.procedures own_procedure s.at.row
      (record { procedure = sound.inside.procedure; start = sound.inside.start; end = sound.inside.end })

  body_inside : (r : ℕ) → InBody g.procedures g.statements here r → Inside g own_procedure r
  body_inside r b = rw procedure_is (record { procedure = b.procedure; start = b.start; end = b.end })

  pub target_inside : (b : ℕ) → Target g.procedures g.statements here b → Inside g own_procedure b
  target_inside b t =
      body_inside b
      (target_in g.variables g.procedures g.statements ok.procedures ok.counts.some_procedure
      s.at.row row_within b t)

  -- the row behind one that ends no body
  next_inside : (row.kind ≡ 3 → ⊥) → (row.kind ≡ 4 → ⊥) → (row.kind ≡ 7 → ⊥)
      → Inside g own_procedure (s.at.row + 1)
  next_inside a b c =
      body_inside (s.at.row + 1)
      (behind_in g.variables g.procedures g.statements ok.procedures ok.counts.some_procedure
      s.at.row row_within g.nodes ok.questions.statements (no_end row a b c))

  -- the same for a kind that is known
  pub kind_inside : (k : ℕ) → row.kind ≡ k → (k ≡ 3 → ⊥) → (k ≡ 4 → ⊥) → (k ≡ 7 → ⊥)
      → Inside g own_procedure (s.at.row + 1)
  kind_inside k e a b c = next_inside (λ h. a (sym e ∙ h)) (λ h. b (sym e ∙ h)) (λ h. c (sym e ∙ h))

  -- ---- the same frames, another row, other counts, cells and output

  abbrev pub sound_with : (r read out : ℕ) (cells : List Cell) (output : List ℤ) → Inside g own_procedure r
      → Matched Fits (take s.at.top cells) (wants g frames) → length cells ≡ length s.cells
      → Sound g (record {
        at = record { row = r; base = s.at.base; top = s.at.top; read = read; written = out };
        cells = cells;
        output = output;
      })
  sound_with r read out cells output inside holding size = record {
    newest = sound.newest;
    others = sound.others;
    stack = sound.stack;
    holding = holding;
    inside = inside;
    begins = sound.begins;
    ends = sound.ends;
    stored = let stored = sound.stored in omega arith;
    lent = let lent = sound.lent in omega arith;
  }

  -- a jump within the body
  pub gone_ok : (r : ℕ) → Inside g own_procedure r → NextOk g s (goes (go_to s r))
  unfolding go_to
  gone_ok r inside =
      let at = s.at in
      ok_goes (sound_with r at.read at.written s.cells s.output inside sound.holding refl) refl refl

  -- ---- its cells

  -- cells read below top
  pub part_cells : {a : ℕ} {ws : List Want} → Part (wants g frames) a ws
      → Matched Fits (part_at s.cells a (length ws)) ws
  part_cells {a} {ws} p =
      rw (part_below s.cells a (length ws) s.at.top (part_top g ok bytes s sound p)) at
      (matched_part sound.holding p)

  pub on_part_ok : {a : ℕ} {ws : List Want} (n : ℕ) (k : List Cell → Next Cell) → Part (wants g frames) a ws
      → length ws ≡ n → ((new : List Cell) → Matched Fits new ws → NextOk g s (k new)) → NextOk g s (on_part s a n k)
  unfolding on_part
  on_part_ok {a} {ws} n k p size f =
      let top = part_top g ok bytes s sound p in
      ok_yes g s _ _ (le-leb (a + n) s.at.top (omega arith))
      (f (part_at s.cells a n) (rw size at (part_cells p)))

  -- cells written from address a on
  pub written_ok : {a : ℕ} {new : List Cell} {ws : List Want} → Part (wants g frames) a ws → Matched Fits new ws
      → Inside g own_procedure (s.at.row + 1) → NextOk g s (written s a new)
  unfolding written following go_to with_cells
  written_ok {a} {new} {ws} p m inside =
      let top = part_top g ok bytes s sound p in
      let stored = sound.stored in
      let fill = matched_length m in
      let within : a + length new ≤ s.at.top = omega arith in
      let below = put_below s.cells new a s.at.top within stored in
      let size = put_length s.cells new a (omega arith) in
      ok_yes g s _ _ (le-leb (a + length new) s.at.top within)
      (ok_goes (sound_with (s.at.row + 1) s.at.read s.at.written (overwrite s.cells a new) s.output
      inside (rw below (matched_put sound.holding p m)) size) size refl)

  -- a value written to a single cell
  pub put_ok : (place : Place) (v : Value) → extends g.types place.dynamic place.declared ≡ true
      → Object g frames place.address place.dynamic → kind_of v ≡ kind_in g.types place.declared → InRange v
      → is_single g.types place.declared ≡ true → Inside g own_procedure (s.at.row + 1)
      → NextOk g s (written s place.address (tagged.put v ∷ []))
  put_ok place v extended object kind range single inside =
      written_ok (found_single g ok sound.stack place extended object single)
      (one_more (put_fits v (kind_in g.types place.declared) kind range) no_more) inside

  -- ---- its designators and expressions

  own_here : (r : ℕ) → own_below g.variables g.procedures g.nodes here r ≡ true
      → own_below g.variables g.procedures g.nodes own_procedure r ≡ true
  own_here r e = rw procedure_is e

  module _ (r x : ℕ) (low : r < rows_of g.nodes)
      (typed : type_of g.types g.fields g.variables g.nodes r ≡ Some x)
      (own : own_below g.variables g.procedures g.nodes here r ≡ true) where
    pub found_here : Designates g r → FoundOk g frames x (found r)
    found_here d = find_ok g ok bytes s sound r x low typed (own_here r own) d

    pub given_here : is_single g.types x ≡ true → Gives (kind_in g.types x) (answer r)
    given_here h = eval_ok g ok bytes s sound r x low typed (own_here r own) h

  -- ---- "0 assign b to designator a."

  -- "then copy the target type's cells": those of an object whose type extends the target's
  copied_ok : (target source : Place) → extends g.types target.dynamic target.declared ≡ true
      → Object g frames target.address target.dynamic
      → extends g.types source.dynamic source.declared ≡ true
      → Object g frames source.address source.dynamic
      → extends g.types source.declared target.declared ≡ true
      → Inside g own_procedure (s.at.row + 1) → NextOk g s (copied tagged g s target source)
  unfolding copied
  copied_ok target source a into b from e inside =
      let itself_too = extends_refl g.types target.declared in
      ok_choose g s _ (λ other. ok_trapped (unchanged g s))
      (λ other. on_part_ok (size_of g.types g.fields target.declared) (written s target.address)
      (found_front g ok sound.stack source b from target.declared e)
      (values_length g target.declared)
      (λ new fit. written_ok (found_front g ok sound.stack target a into target.declared itself_too) fit inside))

  pub assigned_ok : row.kind ≡ 0 → AssignRow g.nodes row → NextOk g s (assigned tagged g s row)
  unfolding assigned
  assigned_ok kind form =
      let t = g.types in
      let rules = assign_ruled g.types g.fields g.variables g.procedures g.nodes g.statements in
      let ruled = rules ok.questions.rules s.at.row row_within kind in
      let x = ruled.source in
      let y = ruled.target in
      let x_low = typed_low g ok row.b x ruled.source_type in
      let inside = kind_inside 0 kind (omega arith) (omega arith) (omega arith) in
      let d = form.target in
      on_place_ok g s (unchanged g s) _ (found_here row.a y d.within ruled.target_type ruled.own_target
      (itself (designator_yes d))) (λ target declared extended object.
      ok_choose g s _
      (λ single.
      let y_single : is_single t y ≡ true = rw declared at single in
      let one : x ≡ y = extends_single t g.fields ok.types x y y_single ruled.extension x_low in
      let known = form.source.within in
      on_value_ok g s (unchanged g s) _ (given_here row.b x known ruled.source_type ruled.own_source
      (rw one y_single))
      (λ v k range. put_ok target v extended object (k ∙ ap (kind_in t) (one ∙ sym declared)) range single inside))
      (λ structured.
      let y_structured : is_single t y ≡ false = rw declared at structured in
      let from = structured_designator g ok row.b x form.source ruled.source_type
      (λ single. clash (sym single ∙ rw (single_extends t x y single ruled.extension) y_structured)) in
      let known = form.source.within in
      on_place_ok g s (unchanged g s) _ (found_here row.b x known ruled.source_type ruled.own_source
      (itself from))
      (λ source stated held there.
      copied_ok target source extended object held there
      (rw (declared, stated) ruled.extension) inside)))

  -- ---- "2 go to b if a is FALSE."

  pub jumped_ok : row.kind ≡ 2 → JumpRow g.nodes g.procedures g.statements here row
      → NextOk g s (jumped tagged g row s)
  unfolding jumped following
  jumped_ok kind form =
      let rules = jump_ruled g.types g.fields g.variables g.procedures g.nodes g.statements in
      let ruled = rules ok.questions.rules s.at.row row_within kind in
      let inside = kind_inside 2 kind (omega arith) (omega arith) (omega arith) in
      let known = form.condition.within in
      on_value_ok g s (unchanged g s) _ (given_here row.a BOOLEAN known ruled.type ruled.own
      (row_single g ok a_boolean))
      (λ v k range. boolean_only (NextOk g s) _ v _ (k ∙ kind_row g ok a_boolean) (λ holds.
      ok_either g s holds (gone_ok (s.at.row + 1) inside)
      (gone_ok row.b (target_inside row.b form.target))))

  -- ---- "4 RETURN."

  -- to the frame of a call
  left_ok : (f : Frame) (fs : List Frame) → Stack g (f ∷ fs)
      → Matched Fits (take s.at.top s.cells) (wants g (f ∷ fs)) → s.at.base ≡ length (wants g fs)
      → s.at.top ≡ length (wants g (f ∷ fs)) → (f.procedure ≡ 0 → ⊥)
      → NextOk g s
      (on_mark s (mark_at tagged s.at.top s.cells LINK (s.at.base + 1)) λ r.
      on_mark s (mark_at tagged s.at.top s.cells LINK (s.at.base + 2)) λ base.
      goes (record {
        at = record { row = r; base = base; top = s.at.base; read = s.at.read; written = s.at.written };
        cells = s.cells;
        output = s.output;
      }))
  left_ok f fs (a_frame st low (is_first e a b c) slots) h begins ends other = absurd (other e)
  left_ok f (c ∷ fs) (a_frame st low (is_called r kind a at next caller back base) slots) h begins ends other =
      let w = wants g (c ∷ fs) in
      let stored = sound.stored in
      let lent = sound.lent in
      let there : length w + 2 + length (exactly LINK f.callers_base ∷ joined f.slots) ≤ s.at.top =
      omega (arith, part_end (base_part g f (c ∷ fs)), ends) in
      let older : length (wants g fs) ≤ length w = omega (arith, part_end (older_part g c fs)) in
      let few = ok.counts.statements in
      let last = next.end in
      let bodies = end_within g.variables g.procedures g.statements ok.procedures in
      let body = bodies c.procedure next.procedure in
      let kept : Matched Fits (take (length w) s.cells) w =
      rw (part_below s.cells 0 (length w) s.at.top (omega arith), first_cells s.cells (length w))
      at (matched_part h (older_part g f (c ∷ fs))) in
      let base_link : List Want = exactly LINK f.callers_base ∷ joined f.slots in
      let to : Part (wants g (f ∷ c ∷ fs)) (s.at.base + 1) (exactly LINK f.back ∷ base_link) =
      rw begins (back_part g f (c ∷ fs)) in
      let from : Part (wants g (f ∷ c ∷ fs)) (s.at.base + 2) base_link = rw begins (base_part g f (c ∷ fs)) in
      on_mark_ok g s _ (mark_there s.at.top s.cells h to (omega arith) (omega arith))
      (on_mark_ok g s _ (mark_there s.at.top s.cells h from (omega arith) (omega arith))
      (ok_goes (record {
        newest = c;
        others = fs;
        stack = st;
        holding = rw begins kept;
        inside = rw back next;
        begins = base;
        ends = begins;
        stored = omega arith;
        lent = lent;
      }) refl refl))

  pub returned_ok : NextOk g s (returned tagged g s)
  unfolding returned
  returned_ok =
      ok_choose g s _ (λ main. ok_finished)
      (λ other. left_ok sound.newest sound.others sound.stack sound.holding sound.begins sound.ends
      (λ e. eqb-false here 0 other (sym procedure_is ∙ e)))

  -- ---- "5 read into designator a. 6 write a. 7 HALT(a)."

  read_ok : {x : Next Cell} → NextOk g s x → NextOk g s (after_read x)
  unfolding after_read
  read_ok (ok_goes {s' = u} h cells output) = ok_goes (record {
    newest = h.newest;
    others = h.others;
    stack = h.stack;
    holding = h.holding;
    inside = h.inside;
    begins = h.begins;
    ends = h.ends;
    stored = h.stored;
    lent = h.lent;
  }) cells output
  read_ok ok_finished = ok_finished
  read_ok (ok_trapped u) = ok_trapped u

  pub received_ok : (input : List ℤ) → row.kind ≡ 5 → ReadRow g.nodes row
      → NextOk g s (received tagged g input row s)
  unfolding received kind_of
  received_ok input kind form =
      let rules = read_ruled g.types g.fields g.variables g.procedures g.nodes g.statements in
      let ruled = rules ok.questions.rules s.at.row row_within kind in
      let inside = kind_inside 5 kind (omega arith) (omega arith) (omega arith) in
      let d = form.target in
      on_place_ok g s (unchanged g s) _ (found_here row.a INTEGER d.within ruled.type ruled.own
      (itself (designator_yes d))) (λ target declared extended object.
      ok_choose g s _
      (λ more. read_ok (put_ok target (Vs.Int (input_at input s.at.read)) extended object
      (sym (ap (kind_in g.types) declared ∙ kind_row g ok an_integer))
      (integer (input_range input s.at.read)) (rw declared (row_single g ok an_integer)) inside))
      (λ none. ok_trapped (unchanged g s)))

  pub sent_ok : row.kind ≡ 6 → ValueRow g.nodes row → NextOk g s (sent tagged g row s)
  unfolding sent
  sent_ok kind form =
      let rules = write_ruled g.types g.fields g.variables g.procedures g.nodes g.statements in
      let ruled = rules ok.questions.rules s.at.row row_within kind in
      let inside = kind_inside 6 kind (omega arith) (omega arith) (omega arith) in
      on_value_ok g s (unchanged g s) _ (given_here row.a INTEGER form.value.within ruled.type ruled.own
      (row_single g ok an_integer))
      (λ v k range. integer_only (NextOk g s) _ v _ (k ∙ kind_row g ok an_integer) (λ z.
      ok_choose g s _
      (λ more. ok_goes (sound_with (s.at.row + 1) s.at.read (s.at.written + 1) s.cells
      _ inside sound.holding refl) refl (length-set s.output _ z))
      (λ full. ok_trapped (unchanged g s))))

  pub halted_ok : row.kind ≡ 7 → ValueRow g.nodes row → NextOk g s (halted tagged g row s)
  unfolding halted
  halted_ok kind form =
      let rules = halt_ruled g.types g.fields g.variables g.procedures g.nodes g.statements in
      let ruled = (rules ok.questions.rules s.at.row row_within kind).value in
      on_value_ok g s (unchanged g s) _ (given_here row.a INTEGER form.value.within ruled.type ruled.own
      (row_single g ok an_integer))
      (λ v k range. integer_only (NextOk g s) _ v _ (k ∙ kind_row g ok an_integer) (λ z. ok_trapped (unchanged g s)))

  -- ---- by the kind

  module _ (input : List ℤ) where
    -- a step is its row's statement
    pub performed : (k : ℕ) → row.kind ≡ k → NextOk g s (perform tagged g input k row s)
        → NextOk g s (step_of tagged g input s)
    unfolding step_of
    performed k e h = subst (λ (j : ℕ). NextOk g s (perform tagged g input j row s)) (sym e) h

    assign_step : row.kind ≡ 0 → AssignRow g.nodes row → NextOk g s (step_of tagged g input s)
    unfolding perform choose
    assign_step kind form = performed 0 kind (assigned_ok kind form)

    jump_step : row.kind ≡ 2 → JumpRow g.nodes g.procedures g.statements here row
        → NextOk g s (step_of tagged g input s)
    unfolding perform choose
    jump_step kind form = performed 2 kind (jumped_ok kind form)

    goto_step : row.kind ≡ 3 → GotoRow g.procedures g.statements here row
        → NextOk g s (step_of tagged g input s)
    unfolding perform choose
    goto_step kind form = performed 3 kind (gone_ok row.b (target_inside row.b form.target))

    return_step : row.kind ≡ 4 → NextOk g s (step_of tagged g input s)
    unfolding perform choose
    return_step kind = performed 4 kind returned_ok

    read_step : row.kind ≡ 5 → ReadRow g.nodes row → NextOk g s (step_of tagged g input s)
    unfolding perform choose
    read_step kind form = performed 5 kind (received_ok input kind form)

    write_step : row.kind ≡ 6 → ValueRow g.nodes row → NextOk g s (step_of tagged g input s)
    unfolding perform choose
    write_step kind form = performed 6 kind (sent_ok kind form)

    halt_step : row.kind ≡ 7 → ValueRow g.nodes row → NextOk g s (step_of tagged g input s)
    unfolding perform choose
    halt_step kind form = performed 7 kind (halted_ok kind form)

    -- each statement but the call goes on to a sound state, finishes or ends in a trap
    pub simple_ok : (row.kind ≡ 1 → ⊥) → NextOk g s (step_of tagged g input s)
    simple_ok other = go (ok.statement s.at.row row_within)
      where
        go : StatementRow g.nodes g.procedures g.statements s.at.row
            → NextOk g s (step_of tagged g input s)
        go (is_assign z k c) = assign_step k c
        go (is_call z k c) = absurd (other k)
        go (is_jump z k c) = jump_step k c
        go (is_goto z k c) = goto_step k c
        go (is_return z k c) = return_step k
        go (is_read z k c) = read_step k c
        go (is_write z k c) = write_step k c
        go (is_halt z k c) = halt_step k c
