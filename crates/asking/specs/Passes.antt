-- The same test in three passes over the frames, as the code makes them: links, then values, then references.
use Rattle.std.specs.Prelude.{ℕ, zero, suc, ◌+◌, ◌*◌, ◌≡◌, Bool, true, false, List, [], ◌∷◌, ltb, eqb, ℤ, drop}
use Rattle.prelude.specs.Choice.{choose, ◌also◌}
use Rattle.image.specs.Rows.{row_at, rows_of}
use Rattle.shapes.specs.Sizes.{layout_of}
use Rattle.frames.specs.Variables.{globals_of}
use Rattle.frames.specs.Procedures.{first_variable, claimed_by}
use Rattle.places.specs.Places.{width_of}
use Rattle.semantics.specs.Layout.{Program}
use Rattle.asking.specs.Asking.{room_of}
use Rattle.asking.specs.State.{values_kept, reference_kept, links_kept, ends_at}

module _ (g : Program) where
  -- ---- links

  -- those of a frame of procedure q, which begins these cells
  unfoldable pub frame_linked : ℕ → List ℕ → List ℤ → Bool
  frame_linked q qs [] = false
  frame_linked q qs (x ∷ []) = false
  frame_linked q qs (x ∷ y ∷ []) = false
  frame_linked q qs (x ∷ y ∷ z ∷ l) = ltb q (rows_of g.procedures) also links_kept g q qs x y z

  -- and of every frame
  unfoldable pub linked : List ℕ → List ℤ → Bool
  linked [] store = true
  linked (q ∷ qs) store = linked qs store also frame_linked q qs (drop (room_of g qs) store)

  -- the newest frame begins at base and ends at top, and the links lead to all others
  pub record Walked (qs : List ℕ) (store : List ℤ) (base top : ℕ) : Type 0 where
    pub ends : ends_at g qs base top ≡ true
    pub links : linked qs store ≡ true

  -- of these frames the newest that begins below an address: its procedure times 65,536, plus where it begins; 0 where
  -- none does
  unfoldable pub newest_below : List ℕ → ℕ → ℕ
  newest_below [] at = 0
  newest_below (q ∷ qs) at = choose (ltb (room_of g qs) at) (q * 65536 + room_of g qs) (newest_below qs at)

  -- ---- variables

  -- n variables from row k on pass a test of one, which has the cells from its first on
  unfoldable pub variables_pass : (ℕ → List ℤ → Bool) → ℕ → ℕ → List ℤ → Bool
  variables_pass test k zero l = true
  variables_pass test k (suc n) l =
      test k l also variables_pass test (k + 1) n (drop (width_of g.types g.fields g.variables k) l)

  -- so do those of every frame; the test has the older frames, too
  unfoldable pub frames_pass : (List ℕ → ℕ → List ℤ → Bool) → List ℕ → List ℤ → Bool
  frames_pass test [] store = true
  frames_pass test (q ∷ qs) store =
      variables_pass (test qs) (first_variable g.variables g.procedures q) (claimed_by (row_at g.procedures q))
      (drop (room_of g qs + 3) store)
      also frames_pass test qs store

  -- variable row k holds values of its layout, where it is no VAR parameter
  unfoldable pub value_test : ℕ → List ℤ → Bool
  value_test k l =
      choose (eqb (row_at g.variables k).kind 3) true
      (values_kept (layout_of g.types g.fields (row_at g.variables k).a) l)

  -- variable row k refers to an object, where it is one
  unfoldable pub reference_test : List ℕ → ℕ → List ℤ → Bool
  reference_test qs k l =
      choose (eqb (row_at g.variables k).kind 3) (reference_kept g qs (row_at g.variables k).a l) true

  -- the globals' values and every frame's
  unfoldable pub values_pass : List ℕ → List ℤ → Bool
  values_pass qs store =
      variables_pass value_test 0 (globals_of g.variables) store also frames_pass (λ older. value_test) qs store

  -- every frame's references
  unfoldable pub references_pass : List ℕ → List ℤ → Bool
  references_pass qs store = frames_pass reference_test qs store
