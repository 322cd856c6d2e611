-- The test of a state is its three passes over the frames: links, then values, then references.
use mathlib.Core.Path.{◌≡◌, refl, sym, ◌∙◌, ap, ap₂}
use mathlib.Core.Bool.{Bool, true, false}
use mathlib.Core.List.{List, [], ◌∷◌, ◌++◌}
use Prim.Native.Nat.{ℕ, zero, suc, ◌+◌, ◌<◌}
use native.Mathlib.Omega.{arith}
use borrow.Author.Tests.{ne_eqb}
use lib.Dec.{ltb, leb, eqb}
use lib.IntN.{ℤ}
use lib.ListN.{length, drop}
use lib.Seq.{drop-drop}
use Rattle.prelude.specs.Choice.{choose, ◌also◌}
use Rattle.prelude.proofs.Choice.{choose_no, also_first}
use Rattle.image.specs.Rows.{row_at, rows_of}
use Rattle.frames.specs.Variables.{globals_of}
use Rattle.frames.specs.Procedures.{first_variable, claimed_by}
use Rattle.places.specs.Places.{width_of}
use Rattle.statements.specs.Statements.{procedure_at}
use Rattle.values.specs.Values.{cell_of}
use Rattle.semantics.specs.declared.Registers.{Registers}
use Rattle.semantics.specs.Layout.{Program, kinds_of, kinds_from}
use Rattle.semantics.proofs.Objects.{global_kind, kinds_width, kinds_value}
use Rattle.asking.specs.Asking.{room_of}
use Rattle.asking.specs.State.{is_value, values_kept, slot_kept, slots_kept, links_kept, frame_kept, stack_kept}
use Rattle.asking.specs.State.{frames_of, inside_kept, ends_at, sound_of}
use Rattle.asking.specs.Passes.{frame_linked, linked, variables_pass, frames_pass, value_test, reference_test}
use Rattle.asking.specs.Passes.{values_pass, references_pass}

-- ---- tests in another order

also_later : (a b c : Bool) → ((a also b) also c) ≡ (a also b also c)
unfolding ◌also◌
also_later true b c = refl
also_later false b c = refl

also_turned : (a b : Bool) → (a also b) ≡ (b also a)
unfolding ◌also◌
also_turned true b = sym (also_first b refl)
also_turned false true = refl
also_turned false false = refl

also_swap : (a b c : Bool) → (a also b also c) ≡ (b also a also c)
also_swap a b c = sym (also_later a b c) ∙ ap (λ x. x also c) (also_turned a b) ∙ also_later b a c

-- two by two, the first of both and the second of both
also_cross : (a b c d : Bool) → ((a also b) also c also d) ≡ ((a also c) also b also d)
also_cross a b c d =
    also_later a b (c also d) ∙ ap (λ x. a also x) (also_swap b c d) ∙ sym (also_later a c (b also d))

-- ---- values

values_append : (ks ms : List ℕ) (l : List ℤ)
    → values_kept (ks ++ ms) l ≡ (values_kept ks l also values_kept ms (drop (length ks) l))
unfolding values_kept ◌also◌
values_append [] ms l = refl
values_append (k ∷ ks) ms [] = refl
values_append (k ∷ ks) ms (z ∷ l) =
    let one = is_value (cell_of k z) in
    ap (λ x. one also x) (values_append ks ms l)
    ∙ sym (also_later one (values_kept ks l) (values_kept ms (drop (length ks) l)))

module _ (g : Program) where
  -- a variable that is no VAR parameter
  value_one : (k : ℕ) (l : List ℤ) → (row_at g.variables k).kind ≡ 0 → values_kept (kinds_of g k) l ≡ value_test g k l
  unfolding value_test
  value_one k l kind =
      rw (kinds_value g k (omega arith))
      (sym (choose_no _ _ _ (ne_eqb (row_at g.variables k).kind 3 (λ e. absurd (omega arith)))))

  -- n of them
  globals_pass : (n k : ℕ) (l : List ℤ) → ((j : ℕ) → j < k + n → (row_at g.variables j).kind ≡ 0)
      → values_kept (kinds_from g k n) l ≡ variables_pass g (value_test g) k n l
  unfolding kinds_from variables_pass values_kept
  globals_pass zero k l each = refl
  globals_pass (suc n) k l each =
      values_append (kinds_of g k) (kinds_from g (k + 1) n) l
      ∙ ap₂ ◌also◌ (value_one k l (each k (omega arith)))
      (rw (kinds_width g k)
      (globals_pass n (k + 1) (drop (width_of g.types g.fields g.variables k) l) (λ j h. each j (omega arith))))

  -- ---- variables

  slot_pass : (qs : List ℕ) (k : ℕ) (l : List ℤ) → slot_kept g qs k l ≡ (value_test g k l also reference_test g qs k l)
  unfolding slot_kept value_test reference_test choose ◌also◌
  slot_pass qs k l = go (eqb (row_at g.variables k).kind 3) _ _
    where
      go : (var r v : Bool) → choose var r v ≡ (choose var true v also choose var r true)
      go true r v = refl
      go false r v = sym (also_first v refl)

  slots_pass : (qs : List ℕ) (n k : ℕ) (l : List ℤ)
      → slots_kept g qs k n l
      ≡ (variables_pass g (value_test g) k n l also variables_pass g (reference_test g qs) k n l)
  unfolding slots_kept variables_pass ◌also◌
  slots_pass qs zero k l = refl
  slots_pass qs (suc n) k l =
      ap₂ ◌also◌ (slot_pass qs k l) (slots_pass qs n (k + 1) _)
      ∙ also_cross (value_test g k l) (reference_test g qs k l) _ _

  -- ---- frames

  frame_pass : (q : ℕ) (qs : List ℕ) (l : List ℤ)
      → frame_kept g q qs l
      ≡ (frame_linked g q qs l
      also slots_kept g qs (first_variable g.variables g.procedures q) (claimed_by (row_at g.procedures q))
      (drop 3 l))
  unfolding frame_kept frame_linked ◌also◌
  frame_pass q qs [] = refl
  frame_pass q qs (x ∷ []) = refl
  frame_pass q qs (x ∷ y ∷ []) = refl
  frame_pass q qs (x ∷ y ∷ z ∷ l) =
      let first = first_variable g.variables g.procedures q in
      let own = claimed_by (row_at g.procedures q) in
      sym (also_later (ltb q (rows_of g.procedures)) (links_kept g q qs x y z) (slots_kept g qs first own l))

  -- the variables of a frame pass a test
  abbrev own_pass : (ℕ → List ℤ → Bool) → ℕ → List ℕ → List ℤ → Bool
  own_pass test q qs store =
      variables_pass g test (first_variable g.variables g.procedures q) (claimed_by (row_at g.procedures q))
      (drop (room_of g qs + 3) store)

  -- a frame's test is three
  frame_parts : (q : ℕ) (qs : List ℕ) (store : List ℤ)
      → frame_kept g q qs (drop (room_of g qs) store)
      ≡ (frame_linked g q qs (drop (room_of g qs) store)
      also own_pass (value_test g) q qs store
      also own_pass (reference_test g qs) q qs store)
  frame_parts q qs store =
      let first = first_variable g.variables g.procedures q in
      let own = claimed_by (row_at g.procedures q) in
      frame_pass q qs (drop (room_of g qs) store)
      ∙ ap (λ x. frame_linked g q qs (drop (room_of g qs) store) also x)
      (ap (slots_kept g qs first own) (drop-drop 3 (room_of g qs) store)
      ∙ slots_pass qs own first (drop (room_of g qs + 3) store))

  -- a frame's three tests beside those of the older ones, where v is the globals'
  next_pass : (l v w r fl fv fr : Bool) → ((l also (v also w) also r) also fl also fv also fr)
      ≡ ((l also fl) also (v also fv also w) also fr also r)
  next_pass l v w r fl fv fr =
      also_cross l ((v also w) also r) fl (fv also fr)
      ∙ ap (λ x. (l also fl) also x)
      (also_cross (v also w) r fv fr
      ∙ ap₂ ◌also◌ (also_later v w fv ∙ ap (λ x. v also x) (also_turned w fv)) (also_turned r fr))

  -- the test of a stack is the three passes
  pub passes_same : (qs : List ℕ) (store : List ℤ)
      → stack_kept g qs store ≡ (linked g qs store also values_pass g qs store also references_pass g qs store)
  unfolding stack_kept linked values_pass references_pass frames_pass ◌also◌
  passes_same [] store =
      globals_pass (globals_of g.variables) 0 store (λ j h. global_kind g.variables j (omega arith))
      ∙ sym (also_first _ refl) ∙ sym (also_first _ refl)
  passes_same (q ∷ qs) store =
      ap₂ ◌also◌ (passes_same qs store) (frame_parts q qs store)
      ∙ next_pass (linked g qs store) (variables_pass g (value_test g) 0 (globals_of g.variables) store)
      (frames_pass g (λ older. value_test g) qs store) (references_pass g qs store)
      (frame_linked g q qs (drop (room_of g qs) store)) (own_pass (value_test g) q qs store)
      (own_pass (reference_test g qs) q qs store)

  -- "the state is not sound (each cell taken as the kind that its place in a frame gives)", in the order in which it
  -- can be asked
  pub sound_passes : (s : Registers) (store : List ℤ)
      → sound_of g s store
      ≡ (leb (length store) 65536
      also leb s.top (length store)
      also inside_kept g (procedure_at g.procedures s.row) s.row
      also (ends_at g (frames_of g s store) s.base s.top also linked g (frames_of g s store) store)
      also values_pass g (frames_of g s store) store
      also references_pass g (frames_of g s store) store)
  unfolding sound_of
  sound_passes s store =
      let frames = frames_of g s store in
      let in_Body = inside_kept g (procedure_at g.procedures s.row) s.row in
      let ends = ends_at g frames s.base s.top in
      let pass = values_pass g frames store also references_pass g frames store in
      ap (λ x. leb (length store) 65536 also leb s.top (length store) also x)
      (also_swap ends in_Body (stack_kept g frames store)
      ∙ ap (λ x. in_Body also x)
      (ap (λ x. ends also x) (passes_same frames store) ∙ sym (also_later ends (linked g frames store) pass)))
