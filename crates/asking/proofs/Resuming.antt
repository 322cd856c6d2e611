-- A run that goes on, in two goes and in one.
use mathlib.Core.Path.{◌≡◌, refl, sym, ◌∙◌, ap}
use mathlib.Core.Bool.{true}
use mathlib.Core.List.{List, [], ◌∷◌, ◌++◌, map}
use Prim.Native.Nat.{ℕ, zero, suc, ◌+◌}
use native.Mathlib.Omega.{arith}
use lib.IntN.{ℤ}
use lib.ListN.{length, drop, length-map}
use Rattle.prelude.proofs.Parts.{map_append}
use Rattle.image.specs.Rows.{Bytes}
use Rattle.checker.proofs.Accepted.{AcceptedTables}
use Rattle.semantics.specs.declared.Registers.{Registers}
use Rattle.semantics.specs.Memory.{Cell, Memory, tagged, bare}
use Rattle.semantics.specs.Layout.{Program}
use Rattle.semantics.specs.Stepping.{State, Next, Next.goes, Next.finished, Next.trapped, Next.stuck, step_of}
use Rattle.semantics.specs.Running.{raised, Ended, onward, run_from}
use Rattle.semantics.specs.Sound.{Sound}
use Rattle.semantics.proofs.Agreeing.{numbers}
use Rattle.semantics.proofs.Simulation.{erase, erase_ended}
use Rattle.semantics.proofs.Outcomes.{run_ok, run_bare}
use Rattle.asking.specs.State.{zipped, dressed, kinds_below, frames_of, sound_of}
use Rattle.asking.specs.Resuming.{resumed}
use Rattle.asking.proofs.Built.{yes_sound}
use Rattle.asking.proofs.Told.{sound_told}

-- ---- steps in two goes, over any memory

run_split : {X : Type 0} (m : Memory X) (g : Program) (input : List ℤ) (n j k mark : ℕ) (s : State X)
    → (run_from m g input n k mark s).outcome ≡ 0
    → run_from m g input (n + j) k mark s
    ≡ run_from m g input j (run_from m g input n k mark s).steps (run_from m g input n k mark s).mark
    (run_from m g input n k mark s).state
unfolding run_from onward
run_split m g input zero j k mark s e = let q : 0 + j ≡ j = omega arith in rw q
run_split {X} m g input (suc n) j k mark s e =
    let more : suc n + j ≡ suc (n + j) = omega arith in
    rw more (go (step_of m g input s) e (λ u h. run_split m g input n j (k + 1) (raised g s mark) u h))
  where
    later : ℕ → State X → Ended X
    later n u = run_from m g input n (k + 1) (raised g s mark) u

    on : Ended X → Ended X
    on e = run_from m g input j e.steps e.mark e.state

    go : (x : Next X) → (onward x s (k + 1) (raised g s mark) (later n)).outcome ≡ 0
        → ((u : State X) → (later n u).outcome ≡ 0 → later (n + j) u ≡ on (later n u))
        → onward x s (k + 1) (raised g s mark) (later (n + j)) ≡ on (onward x s (k + 1) (raised g s mark) (later n))
    go (goes u) h ih = ih u h
    go finished h ih = absurd (omega arith)
    go (trapped t z u) h ih = absurd (omega arith)
    go (stuck u) h ih = absurd (omega arith)

-- ---- numbers are kept

zipped_numbers : (ks : List ℕ) (l : List ℤ) → numbers (zipped ks l) ++ drop (length ks) l ≡ l
unfolding zipped tagged
zipped_numbers [] l = refl
zipped_numbers (k ∷ ks) [] = refl
zipped_numbers (k ∷ ks) (z ∷ l) = ap (λ (r : List ℤ). z ∷ r) (zipped_numbers ks l)

loose_same : (l : List ℤ) → numbers (map tagged.loose l) ≡ l
unfolding tagged
loose_same [] = refl
loose_same (z ∷ l) = ap (λ (r : List ℤ). z ∷ r) (loose_same l)

dressed_numbers : (ks : List ℕ) (l : List ℤ) → numbers (dressed ks l) ≡ l
unfolding dressed
dressed_numbers ks l =
    map_append tagged.number (zipped ks l) (map tagged.loose (drop (length ks) l))
    ∙ ap (λ r. numbers (zipped ks l) ++ r) (loose_same (drop (length ks) l)) ∙ zipped_numbers ks l

-- ---- what numbers stand for

module _ (g : Program) (s : Registers) (store output : List ℤ) where
  pub resumed_erased : erase (resumed g s store output) ≡ record { at = s; cells = store; output = output }
  unfolding resumed
  resumed_erased = rw (dressed_numbers (kinds_below g (frames_of g s store)) store)

  -- as many cells as there are numbers
  pub resumed_cells : length (resumed g s store output).cells ≡ length store
  unfolding resumed
  resumed_cells =
      let kinds = kinds_below g (frames_of g s store) in
      sym (length-map (dressed kinds store) tagged.number) ∙ ap length (dressed_numbers kinds store)

  -- where they stand for a sound state, the test passes
  pub resumed_told : AcceptedTables g.types g.fields g.variables g.procedures g.nodes g.statements
      → Sound g (resumed g s store output) → sound_of g s store ≡ true
  unfolding resumed
  resumed_told ok sound =
      ap (sound_of g s) (sym (dressed_numbers (kinds_below g (frames_of g s store)) store))
      ∙ sound_told g ok (resumed g s store output) sound

module _ (g : Program)
    (ok : AcceptedTables g.types g.fields g.variables g.procedures g.nodes g.statements)
    (bytes : Bytes g.nodes) (input : List ℤ) where
  -- a run that goes on from numbers does on the bare machine what it does on the tagged one
  pub resumed_bare : (s : Registers) (store output : List ℤ) → sound_of g s store ≡ true → (n k mark : ℕ)
      → run_from bare g input n k mark (record { at = s; cells = store; output = output })
      ≡ erase_ended (run_from tagged g input n k mark (resumed g s store output))
  resumed_bare s store output e n k mark =
      ap (λ (u : State ℤ). run_from bare g input n k mark u) (sym (resumed_erased g s store output))
      ∙ run_bare g ok bytes input n k mark (resumed g s store output) (yes_sound g ok s store output e)

  -- "Where a run of n steps ends with outcome 0, continuing for m gives what one run of n + m gives": in numbers, since
  -- above top the two runs' cells may have other kinds. It "takes its mark from the earlier result".
  pub continue_adds : (n m k mark : ℕ) (s : State Cell) → Sound g s → (run_from tagged g input n k mark s).outcome ≡ 0
      → erase_ended (run_from tagged g input m (run_from tagged g input n k mark s).steps
      (run_from tagged g input n k mark s).mark
      (resumed g (run_from tagged g input n k mark s).state.at
      (numbers (run_from tagged g input n k mark s).state.cells) (run_from tagged g input n k mark s).state.output))
      ≡ erase_ended (run_from tagged g input (n + m) k mark s)
  continue_adds n m k mark s sound used =
      let e = run_from tagged g input n k mark s in
      let told = sound_told g ok e.state ((run_ok g ok bytes input n k mark s sound).sound used) in
      let bare_first = run_bare g ok bytes input n k mark s sound in
      let used_too : (run_from bare g input n k mark (erase s)).outcome ≡ 0 =
      ap (λ (x : Ended ℤ). x.outcome) bare_first ∙ used in
      sym (resumed_bare e.state.at (numbers e.state.cells) e.state.output told m e.steps e.mark)
      ∙ ap (λ (x : Ended ℤ). run_from bare g input m x.steps x.mark x.state) (sym bare_first)
      ∙ sym (run_split bare g input n m k mark (erase s) used_too)
      ∙ run_bare g ok bytes input (n + m) k mark s sound
