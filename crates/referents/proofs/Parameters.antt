-- Laws of the loop over a frame's parameters.
use mathlib.Core.Path.{◌≡◌, refl, sym, ◌∙◌}
use mathlib.Core.Bool.{Bool, true, false}
use mathlib.Core.List.{List, ◌∷◌}
use Prim.Native.Nat.{ℕ, zero, suc, ◌+◌, ◌-◌, ◌≤◌, ◌<◌}
use native.Mathlib.Omega.{arith}
use native.Mathlib.Decide.{dec_lt}
use borrow.Author.Tests.{leb-true, eq-eqb, ne_eqb}
use lib.IntN.{ℤ}
use lib.ListN.{drop}
use Rattle.prelude.proofs.Choice.{choose_yes, choose_no, also_true, also_yes}
use Rattle.image.specs.declared.Row.{Row}
use Rattle.image.specs.Rows.{row_at, rows_of}
use Rattle.shapes.specs.Sizes.{size_of}
use Rattle.frames.specs.Variables.{kind_within}
use Rattle.frames.specs.Procedures.{first_variable, claimed_by}
use Rattle.places.specs.Places.{width_of, room_from, frame_size}
use Rattle.places.proofs.Rooms.{width_var, room_up}
use Rattle.semantics.specs.Layout.{Program, place_of}
use Rattle.semantics.specs.Running.{program_of}
use Rattle.semantics.proofs.Demand3.{program_accepted}
use Rattle.asking.specs.Asking.{room_of}
use Rattle.asking.specs.State.{reference_kept}
use Rattle.asking.specs.Passes.{variables_pass, reference_test}
use Rattle.asking.proofs.Variables.{along_start, Ahead, ahead_here, ahead_no, ahead_more}
use Rattle.access.specs.Ready.{Planned}
use Rattle.access.proofs.Bounds.{claimed_there, place_in_lem}
use Rattle.unwinding.specs.Going.{Oldest}
use Rattle.unwinding.specs.Next.{next_of}
use Rattle.unwinding.proofs.Next.{bare_other, next_least, ahead_next}
use Rattle.referents.specs.Reading.{Framed}

-- ---- one variable

module _ (g : Program) (k : ℕ) {row : Row} (is : row ≡ row_at g.variables k) where
  pub test_other : (older : List ℕ) (l : List ℤ) → (row.kind ≡ 3 → ⊥) → true ≡ reference_test g older k l
  unfolding reference_test
  test_other older l other = sym (choose_no _ _ _ (ne_eqb (row_at g.variables k).kind 3 (rw is at other)))

  module _ (var : row.kind ≡ 3) where
    -- its two cells
    pub test_room : (base : ℕ) {place top : ℕ} → place ≡ place_of g k
        → base + place_of g k + width_of g.types g.fields g.variables k ≤ top → base + place + 2 ≤ top
    test_room base at room =
        let two = width_var (size_of g.types g.fields) g.variables k (rw is at var) in
        omega (arith, at, two)

    pub test_reference : (older : List ℕ) (store : List ℤ) (base : ℕ) {place : ℕ} → place ≡ place_of g k → {x : Bool}
        → x ≡ reference_kept g older row.a (drop (base + place) store)
        → x ≡ reference_test g older k (drop (base + place_of g k) store)
    unfolding reference_test
    test_reference older store base at e =
        (rw (at, is) at e) ∙ sym (choose_yes _ _ _ (eq-eqb (row_at g.variables k).kind 3 (rw is at var)))

-- a variable without cells is none
pub test_free : (g : Program) (older : List ℕ) (k : ℕ) (l : List ℤ)
    → width_of g.types g.fields g.variables k ≡ 0 → reference_test g older k l ≡ true
test_free g older k l none = sym (test_other g k refl older l (bare_other g k none))

-- ---- several

pass_all : (g : Program) (test : ℕ → List ℤ → Bool) (n j : ℕ) (l : List ℤ)
    → ((i : ℕ) (m : List ℤ) → j ≤ i → i < j + n → test i m ≡ true) → variables_pass g test j n l ≡ true
unfolding variables_pass
pass_all g test zero j l each = refl
pass_all g test (suc n) j l each =
    also_yes (each j l (omega arith) (omega arith))
    (pass_all g test n (j + 1) _ (λ i m low high. each i m (omega arith) (omega arith)))

module _ (image : List ℕ) (q : ℕ) where
  abbrev g : Program
  g = program_of image

  -- procedure q's first variable, and how many parameters and variables it has
  abbrev first : ℕ
  first = first_variable g.variables g.procedures q

  abbrev parameters : ℕ
  parameters = (row_at g.procedures q).b

  abbrev all : ℕ
  all = claimed_by (row_at g.procedures q)

  all_is : all ≡ parameters + (row_at g.procedures q).c
  unfolding claimed_by
  all_is = refl

  pub end_is : {row : Row} {start : ℕ} → row ≡ row_at g.procedures q → start ≡ first
      → start + row.b ≡ first + parameters
  end_is is at = rw (is, at) refl

  module _ {plan : List ℕ} (p : Planned image plan) (there : q < rows_of g.procedures) where
    module _ {k : ℕ} (low : first ≤ k) (more : k < first + parameters) where
      place_is : place_of g k ≡ 3 + room_from g.types g.fields g.variables first (k - first)
      place_is =
          let row : first + (k - first) ≡ k = omega arith in
          rw row at (place_in_lem p q (k - first) there (omega arith))

      -- a parameter is there, within the frame
      pub parameter_there : k < rows_of g.variables
      parameter_there = omega (arith, claimed_there p q there)

      pub parameter_room : (base : ℕ) {top : ℕ}
          → base + frame_size g.types g.fields g.variables g.procedures q ≤ top
          → base + place_of g k + width_of g.types g.fields g.variables k ≤ top
      unfolding frame_size
      parameter_room base room =
          let row : first + (k - first) ≡ k = omega arith in
          let up = rw row at (room_up (size_of g.types g.fields) g.variables first (k - first) all
          (omega (arith, all_is))) in
          omega (arith, place_is)

    -- locals are no VAR parameters
    local_passes : (older : List ℕ) (i : ℕ) (l : List ℤ) → first + parameters ≤ i → i < first + all
        → reference_test g older i l ≡ true
    unfolding kind_within
    local_passes older i l low high =
        let ok = program_accepted image p.checked.accepted in
        let local = (ok.procedures.row q there).locals.each i low (omega (arith, all_is)) in
        let most : (row_at g.variables i).kind ≤ 1 = leb-true _ _ (also_true _ _ local).1 in
        sym (test_other g i refl older l (λ e. absurd (omega arith)))

  module _ (base : ℕ) (store : List ℤ) (top : ℕ) (blocks : List ℕ) where
    -- what is said of the frame at base, where it is one of these and begins behind the older ones
    abbrev Told : (List ℕ → Type 0) → Type 0
    Told P =
        (p : ℕ) (qs older : List ℕ) → Framed g store top blocks qs → Oldest (p ∷ older) qs → base ≡ room_of g older
        → P older

    -- the parameters before row k passed
    pub record Passed (k : ℕ) : Type 0 where
      pub least : first ≤ k
      pub ahead : Told (λ older. (at : ℕ) × Ahead g (reference_test g older) store first all (base + 3) k at)

    pub passed_start : {start k : ℕ} → start ≡ first → k ≡ next_of g start → Passed k
    passed_start from is =
        let at = rw from at is in
        record {
          least = omega (arith, at, next_least g first);
          ahead = λ o qs older framed oldest start. (
            base + 3,
            ahead_next g (along_start g (reference_test g older) store first all (base + 3)) at,
          );
        }

    module _ {plan : List ℕ} (p : Planned image plan) (there : q < rows_of g.procedures) {k : ℕ} (h : Passed k) where
      module _ (more : k < first + parameters) {x : Bool}
          (answer : Told (λ older. x ≡ reference_test g older k (drop (base + place_of g k) store))) where
        test_is : (o : ℕ) (qs older : List ℕ) → Framed g store top blocks qs → Oldest (o ∷ older) qs
            → base ≡ room_of g older → {at : ℕ} → Ahead g (reference_test g older) store first all (base + 3) k at
            → x ≡ reference_test g older k (drop at store)
        test_is o qs older framed oldest start {at} ahead =
            let along = ahead_here g (reference_test g older) (test_free g older) ahead (omega (arith, all_is)) in
            let same : base + place_of g k ≡ at = omega (arith, along.place, place_is p there h.least more) in
            rw same at (answer o qs older framed oldest start)

        pub passed_no : x ≡ false
            → Told (λ older. false ≡ variables_pass g (reference_test g older) first all (drop (base + 3) store))
        passed_no e o qs older framed oldest start =
            let (at, ahead) = h.ahead o qs older framed oldest start in
            sym (ahead_no g (reference_test g older) (test_free g older) ahead (omega (arith, all_is))
            (sym (test_is o qs older framed oldest start ahead) ∙ e))

        pub passed_next : {j : ℕ} → x ≡ true → j ≡ next_of g (k + 1) → Passed j
        passed_next e is = record {
          least = omega (arith, is, next_least g (k + 1), h.least);
          ahead = λ o qs older framed oldest start.
              let (at, ahead) = h.ahead o qs older framed oldest start in (
                _,
                ahead_next g
                    (ahead_more g (reference_test g older) (test_free g older) ahead (omega (arith, all_is))
                    (sym (test_is o qs older framed oldest start ahead) ∙ e) refl)
                    is,
              );
        }

      pub passed_end : first + parameters ≤ k
          → Told (λ older. true ≡ variables_pass g (reference_test g older) first all (drop (base + 3) store))
      passed_end done o qs older framed oldest start =
          let (at, ahead) = h.ahead o qs older framed oldest start in
          let most = ahead.along.most in
          sym (ahead.along.rest
          ∙ pass_all g (reference_test g older) (first + all - ahead.reached) ahead.reached (drop at store)
          (λ i m low high. passes older (ahead.bare i low) m (omega arith) (dec_lt i k)))
        where
          passes : (older : List ℕ) {i : ℕ} → (i < k → width_of g.types g.fields g.variables i ≡ 0)
              → (m : List ℤ) → i < first + all → Dec (i < k) → reference_test g older i m ≡ true
          passes older {i} bare m high (yes before) = test_free g older i m (bare before)
          passes older {i} bare m high (no behind) = local_passes p there older i m (omega arith) high
