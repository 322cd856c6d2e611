-- What a step asks for, in words; and that the mark is the largest of what the steps ask for.
use mathlib.Core.Path.{◌≡◌, refl, ◌∙◌}
use mathlib.Core.Bool.{Bool, true, false}
use mathlib.Core.List.{List}
use mathlib.Core.Logic.{◌⊎◌, inl, inr, ⊎_elim}
use Prim.Native.Nat.{ℕ, zero, suc, ◌+◌, ◌≤◌, ◌<◌, max}
use native.Mathlib.Omega.{arith}
use native.Mathlib.Decide.{dec_le}
use borrow.Author.Tests.{ltb-false, le-ltb, eqb-true, eq-eqb}
use lib.Dec.{ltb, eqb}
use lib.IntN.{ℤ}
use lib.ListN.{length}
use Rattle.prelude.specs.Choice.{choose}
use Rattle.prelude.proofs.Choice.{choose_yes, choose_no}
use Rattle.image.specs.Rows.{row_at}
use Rattle.semantics.specs.declared.Registers.{Registers}
use Rattle.semantics.specs.Memory.{Memory, Cell, tagged}
use Rattle.semantics.specs.Layout.{Program, new_top}
use Rattle.semantics.specs.Stepping.{State, Next, Next.goes, Next.finished, Next.trapped, Next.stuck, step_of}
use Rattle.semantics.specs.Running.{asked_by, raised, Ended, onward, run_from}
use Rattle.semantics.specs.After.{Machine.running, moved, after}
use Rattle.semantics.specs.Marks.{Asks, AskedWithin, Largest}

module _ (g : Program) (s : Registers) where
  -- the top behind a call of the procedure that the statement names
  abbrev pub call_top : ℕ
  call_top = new_top g s.top (row_at g.statements s.row).a

  -- a call that fits into so many cells asks for it
  pub asked_call : (cells : ℕ) → (row_at g.statements s.row).kind ≡ 1 → call_top ≤ cells → asked_by g s cells ≡ call_top
  unfolding asked_by
  asked_call cells call fits = choose_yes _ _ _ (eq-eqb _ 1 call) ∙ choose_no _ _ _ (le-ltb cells call_top fits)

  -- and no other step asks for any
  pub asked_cases : (cells : ℕ)
      → (asked_by g s cells ≡ 0)
      ⊎ (((row_at g.statements s.row).kind ≡ 1) × ((asked_by g s cells ≡ call_top) × (call_top ≤ cells)))
  unfolding asked_by choose
  asked_cases cells = go (eqb (row_at g.statements s.row).kind 1) refl (ltb cells call_top) refl
    where
      go : (call : Bool) → eqb (row_at g.statements s.row).kind 1 ≡ call → (past : Bool) → ltb cells call_top ≡ past
          → (choose call (choose past 0 call_top) 0 ≡ 0)
          ⊎ (((row_at g.statements s.row).kind ≡ 1)
          × ((choose call (choose past 0 call_top) 0 ≡ call_top) × (call_top ≤ cells)))
      go true call true past = inl refl
      go true call false past = inr (eqb-true _ _ call, (refl, ltb-false _ _ past))
      go false call past e = inl refl

  pub asked_lent : (cells : ℕ) → asked_by g s cells ≤ cells
  asked_lent cells =
      ⊎_elim (λ none. omega arith) (λ some. let (call, (top, fits)) = some in omega arith) (asked_cases cells)

-- ---- a run's mark does not fall

module _ {X : Type 0} (m : Memory X) (g : Program) (input : List ℤ) where
  onward_grows : (x : Next X) (s : State X) (k mark : ℕ) (next : State X → Ended X)
      → ((u : State X) → mark ≤ (next u).mark) → mark ≤ (onward x s k mark next).mark
  unfolding onward
  onward_grows (goes u) s k mark next later = later u
  onward_grows finished s k mark next later = omega arith
  onward_grows (trapped t z u) s k mark next later = omega arith
  onward_grows (stuck u) s k mark next later = omega arith

  mark_grows : (n k mark : ℕ) (s : State X) → mark ≤ (run_from m g input n k mark s).mark
  unfolding run_from raised
  mark_grows zero k mark s = omega arith
  mark_grows (suc n) k mark s =
      omega (
        arith,
        onward_grows (step_of m g input s) s (k + 1) (raised g s mark)
            (λ u. run_from m g input n (k + 1) (raised g s mark) u) (λ u. mark_grows n (k + 1) (raised g s mark) u),
      )

  -- what the first step asks for is no more than the mark
  pub asked_below : (n k mark : ℕ) (s : State X)
      → asked_by g s.at (length s.cells) ≤ (run_from m g input (suc n) k mark s).mark
  unfolding run_from raised
  asked_below n k mark s =
      omega (
        arith,
        onward_grows (step_of m g input s) s (k + 1) (raised g s mark)
            (λ u. run_from m g input n (k + 1) (raised g s mark) u) (λ u. mark_grows n (k + 1) (raised g s mark) u),
      )

-- ---- the largest

module _ (g : Program) (input : List ℤ) where
  -- what the first step asks for
  asks_raised : (mark : ℕ) (s : State Cell) {top : ℕ} → Asks g s top → top ≤ raised g s mark
  unfolding raised
  asks_raised mark s asks =
      let top = asks.asked in
      let fits = asks.passed in
      omega (arith, asked_call g s.at (length s.cells) asks.call (omega arith))

  -- the mark behind it is the one before, or what it asks for
  raised_cases : (mark : ℕ) (s : State Cell) → (raised g s mark ≡ mark) ⊎ Asks g s (raised g s mark)
  unfolding raised
  raised_cases mark s =
      ⊎_elim (λ none. inl (omega arith))
      (λ some. go some (dec_le (asked_by g s.at (length s.cells)) mark))
      (asked_cases g s.at (length s.cells))
    where
      go : ((row_at g.statements s.at.row).kind ≡ 1)
          × ((asked_by g s.at (length s.cells) ≡ call_top g s.at) × (call_top g s.at ≤ length s.cells))
          → Dec (asked_by g s.at (length s.cells) ≤ mark)
          → (max mark (asked_by g s.at (length s.cells)) ≡ mark)
          ⊎ Asks g s (max mark (asked_by g s.at (length s.cells)))
      go some (yes low) = inl (omega arith)
      go (call, (top, fits)) (no high) =
          let this : max mark (asked_by g s.at (length s.cells)) ≡ call_top g s.at = omega arith in
          inr (record { call = call; asked = this; passed = omega arith })

  -- of the first step alone
  first_asked : (n : ℕ) (s : State Cell) {top : ℕ} → Asks g s top → AskedWithin g input (suc n) s top
  unfolding after
  first_asked n s asks = record { steps = 0; low = omega arith; state = s; reached = refl; asks = asks }

  -- where the first step goes on, of the others
  later_asked : (n : ℕ) (s u : State Cell) {top : ℕ} → step_of tagged g input s ≡ goes u → AskedWithin g input n u top
      → AskedWithin g input (suc n) s top
  unfolding after moved
  later_asked n s u step a =
      let low = a.low in
      record { steps = suc a.steps; low = omega arith; state = a.state; reached = rw step a.reached; asks = a.asks }

  -- and there are no more: what holds of what the first step asks for, and the others, holds of all
  asked_has : (n : ℕ) (s : State Cell) (P : ℕ → Type 0) → ((top : ℕ) → Asks g s top → P top)
      → ((u : State Cell) → step_of tagged g input s ≡ goes u → (top : ℕ) → AskedWithin g input n u top → P top)
      → (top : ℕ) → AskedWithin g input (suc n) s top → P top
  unfolding after moved
  asked_has n s P first others top a = go a.steps a.low a.reached
    where
      on : (d : ℕ) → d < n → (x : Next Cell) → step_of tagged g input s ≡ x
          → moved x s (after tagged g input d) ≡ running a.state → P top
      on d low (goes u) step r =
          others u step top
          (record { steps = d; low = low; state = a.state; reached = r; asks = a.asks })
      on d low finished step r = let z : ◌≡◌ {A = ℕ} 0 1 = cc in absurd (omega arith)
      on d low (trapped t z u) step r = let z : ◌≡◌ {A = ℕ} 0 1 = cc in absurd (omega arith)
      on d low (stuck u) step r = let z : ◌≡◌ {A = ℕ} 0 1 = cc in absurd (omega arith)

      go : (d : ℕ) → d < suc n → after tagged g input d s ≡ running a.state → P top
      go zero low r = let same : s ≡ a.state = cc in first top (rw same a.asks)
      go (suc d) low r = on d (omega arith) (step_of tagged g input s) refl r

  pub largest : (n k mark : ℕ) (s : State Cell)
      → Largest g input n s mark (run_from tagged g input n k mark s).mark
  unfolding run_from onward
  largest zero k mark s = record {
    from_first = omega arith;
    from_calls = λ a. absurd (let low = a.low in omega arith);
    one_of_them = inl refl;
  }
  largest (suc n) k mark s = go (step_of tagged g input s) refl (largest n (k + 1) (raised g s mark))
    where
      grows : mark ≤ raised g s mark
      grows = unfold raised in omega arith

      -- the step is the last
      last : ((u : State Cell) → step_of tagged g input s ≡ goes u → ⊥) → Largest g input (suc n) s mark (raised g s mark)
      last ends = record {
        from_first = grows;
        from_calls = λ {top} a. asked_has n s (λ top. top ≤ raised g s mark) (λ top b. asks_raised mark s b)
            (λ u step. absurd (ends u step)) top a;
        one_of_them = ⊎_elim inl (λ b. inr (first_asked n s b)) (raised_cases mark s);
      }

      go : (x : Next Cell) → step_of tagged g input s ≡ x
          → ((u : State Cell)
          → Largest g input n u (raised g s mark) (run_from tagged g input n (k + 1) (raised g s mark) u).mark)
          → Largest g input (suc n) s mark
          (onward x s (k + 1) (raised g s mark) (λ u. run_from tagged g input n (k + 1) (raised g s mark) u)).mark
      go (goes u) step later = record {
        from_first = omega (arith, grows, (later u).from_first);
        from_calls = λ {top} a. asked_has n s (λ top. top ≤ (run_from tagged g input n (k + 1) (raised g s mark) u).mark)
            (λ top b. omega (arith, asks_raised mark s b, (later u).from_first))
            (λ v other top b. let same : u ≡ v = cc in (later u).from_calls (rw same b)) top a;
        one_of_them = ⊎_elim
            (λ e. ⊎_elim (λ f. inl (e ∙ f)) (λ b. inr (rw e (first_asked n s b))) (raised_cases mark s))
            (λ b. inr (later_asked n s u step b)) (later u).one_of_them;
      }
      go finished step later = last (λ u other. let z : ◌≡◌ {A = ℕ} 0 1 = cc in absurd (omega arith))
      go (trapped t z u) step later = last (λ u other. let z : ◌≡◌ {A = ℕ} 0 1 = cc in absurd (omega arith))
      go (stuck u) step later = last (λ u other. let z : ◌≡◌ {A = ℕ} 0 1 = cc in absurd (omega arith))
