-- A run in a store, and in one that is longer: where the longer one's mark lies within the shorter store the two are the
-- same, and where it lies beyond, the shorter one's run ends with trap 7. From any state of any memory.
use mathlib.Core.Path.{◌≡◌, refl, sym, ◌∙◌}
use mathlib.Core.List.{List, ◌++◌}
use mathlib.Core.Logic.{⊎_elim}
use Prim.Native.Nat.{ℕ, zero, suc, ◌+◌, ◌≤◌, ◌<◌}
use native.Mathlib.Omega.{arith}
use native.Mathlib.Decide.{dec_le}
use borrow.Author.Tests.{lt-ltb, eqb-true, eq-eqb, ne_eqb}
use lib.IntN.{ℤ, pos}
use lib.ListN.{length, length-append}
use Rattle.prelude.proofs.Choice.{choose_yes, choose_no}
use Rattle.image.specs.declared.Row.{Row}
use Rattle.image.specs.Rows.{row_at}
use Rattle.values.specs.declared.Trap.TheVariants as Ts
use Rattle.values.specs.Values.{trap_number}
use Rattle.checker.proofs.Accepted.{AcceptedTables}
use Rattle.semantics.specs.Memory.{Memory}
use Rattle.semantics.specs.Layout.{Program}
use Rattle.semantics.specs.Stepping.{State, Next, Next.trapped, called, perform}
use Rattle.semantics.specs.Stepping.{step_of}
use Rattle.semantics.specs.Running.{asked_by, raised, Ended, onward, run_from}
use Rattle.semantics.proofs.Longer.{longer, Longer, Longer.longer_goes, Longer.longer_end, Longer.longer_trap}
use Rattle.semantics.proofs.Longer.{Longer.longer_stuck, choose_longer, assigned_longer, gone_longer, jumped_longer}
use Rattle.semantics.proofs.Longer.{returned_longer, received_longer, sent_longer, halted_longer}
use Rattle.semantics.proofs.LongerCalls.{called_longer}
use Rattle.semantics.proofs.Marks.{call_top, asked_call, asked_cases, asked_below}

-- where a run ended, in a store with more cells
unfoldable pub longer_ended : {X : Type 0} → List X → Ended X → Ended X
longer_ended rest e = record {
  outcome = e.outcome;
  trap = e.trap;
  halt = e.halt;
  steps = e.steps;
  mark = e.mark;
  state = longer rest e.state;
}

-- a run in a store of n cells, and in the longer one: the same, and it leaves as many cells
pub record RunsLonger {X : Type 0} (rest : List X) (n : ℕ) (short long : Ended X) : Type 0 where
  pub same : long ≡ longer_ended rest short
  pub cells : length short.state.cells ≡ n

module _ {X : Type 0} (m : Memory X) (g : Program)
    (ok : AcceptedTables g.types g.fields g.variables g.procedures g.nodes g.statements)
    (input : List ℤ) (rest : List X) (n : ℕ) where
  module _ (s : State X) (size : length s.cells ≡ n) (high : s.at.top ≤ n) where
    -- what the step asks for in the longer store
    abbrev asked : ℕ
    asked = asked_by g s.at (length (s.cells ++ rest))

    -- asked for within the shorter store, it is asked for there too
    same_asked : asked ≤ n → asked_by g s.at (length s.cells) ≡ asked
    same_asked low =
        ⊎_elim
        (λ none. ⊎_elim (λ none'. none' ∙ sym none)
        (λ some. let (call, (top, fits)) = some in
        omega (
          arith,
          asked_call g s.at (length (s.cells ++ rest)) call
              (omega (arith, length-append s.cells rest)),
        ))
        (asked_cases g s.at (length s.cells)))
        (λ some. let (call, (top, fits)) = some in
        asked_call g s.at (length s.cells) call (omega arith) ∙ sym top)
        (asked_cases g s.at (length (s.cells ++ rest)))

    step_longer : asked ≤ n → Longer rest n (step_of m g input s) (step_of m g input (longer rest s))
    unfolding step_of perform longer
    step_longer low =
        let row : Row = row_at g.statements s.at.row in
        choose_longer rest n _ (λ e. assigned_longer m g rest n s size high row)
        (λ e. choose_longer rest n _
        (λ e. called_longer m g ok rest n row s size high (λ fits.
        omega (arith, asked_call g s.at (length (s.cells ++ rest)) (eqb-true _ _ e) fits)))
        (λ e. choose_longer rest n _ (λ e. jumped_longer m g rest n s size high row)
        (λ e. choose_longer rest n _ (λ e. gone_longer m g rest n s size high row.b)
        (λ e. choose_longer rest n _ (λ e. returned_longer m g rest n s size high)
        (λ e. choose_longer rest n _ (λ e. received_longer m g rest n s size high input row)
        (λ e. choose_longer rest n _ (λ e. sent_longer m g rest n s size high row)
        (λ e. choose_longer rest n _ (λ e. halted_longer m g rest n s size high row)
        (λ e. longer_stuck size refl))))))))

    -- a call that asks for more than the shorter store has: trap 7 there
    step_short : n < asked → step_of m g input s ≡ trapped Ts.Frame (pos 0) s
    unfolding step_of perform called
    step_short past =
        ⊎_elim (λ none. absurd (omega arith))
        (λ some. let (call, (top, fits)) = some in
        choose_no _ _ _ (ne_eqb (row_at g.statements s.at.row).kind 0 (λ none. absurd (omega arith)))
        ∙ choose_yes _ _ _ (eq-eqb _ 1 call)
        ∙ choose_yes _ _ _ (lt-ltb (length s.cells) (call_top g s.at) (omega arith)))
        (asked_cases g s.at (length (s.cells ++ rest)))

    -- the mark behind the step, in both
    same_raised : (mark : ℕ) → asked ≤ n → raised g (longer rest s) mark ≡ raised g s mark
    unfolding raised longer
    same_raised mark low = rw (same_asked low)

  -- a run whose mark lies within the shorter store
  pub run_longer : (c k mark : ℕ) (s : State X) → length s.cells ≡ n → s.at.top ≤ n
      → (run_from m g input c k mark (longer rest s)).mark ≤ n
      → RunsLonger rest n (run_from m g input c k mark s) (run_from m g input c k mark (longer rest s))
  unfolding run_from onward longer longer_ended
  run_longer zero k mark s size high low = record { same = refl; cells = size }
  run_longer (suc c) k mark s size high low =
      let below = asked_below m g input c k mark (longer rest s) in
      let fits : asked s size high ≤ n = omega arith in
      let raises = same_raised s size high mark fits in
      rw raises (go _ _ (step_longer s size high fits) (raised g s mark) (rw raises at low)
      (run_longer c (k + 1) (raised g s mark)))
    where
      later : ℕ → State X → Ended X
      later new u = run_from m g input c (k + 1) new u

      go : (x y : Next X) → Longer rest n x y → (new : ℕ) → (onward y (longer rest s) (k + 1) new (later new)).mark ≤ n
          → ((u : State X) → length u.cells ≡ n → u.at.top ≤ n → (later new (longer rest u)).mark ≤ n
          → RunsLonger rest n (later new u) (later new (longer rest u)))
          → RunsLonger rest n (onward x s (k + 1) new (later new)) (onward y (longer rest s) (k + 1) new (later new))
      go x y (longer_goes top cells e) new low on = rw e (on _ cells top (rw e at low))
      go x y longer_end new low on = record { same = refl; cells = size }
      go x y (longer_trap cells e) new low on = rw e (record { same = refl; cells = cells })
      go x y (longer_stuck cells e) new low on = rw e (record { same = refl; cells = cells })

  -- a run whose mark lies beyond it: trap 7
  pub run_short : (c k mark : ℕ) (s : State X) → length s.cells ≡ n → s.at.top ≤ n → mark ≤ n
      → n < (run_from m g input c k mark (longer rest s)).mark
      → ((run_from m g input c k mark s).outcome ≡ 2) × ((run_from m g input c k mark s).trap ≡ 7)
  unfolding run_from onward trap_number
  run_short zero k mark s size high low past = absurd (omega arith)
  run_short (suc c) k mark s size high low past =
      by (dec_le (asked s size high) n) (run_short c (k + 1) (raised g s mark))
    where
      later : ℕ → State X → Ended X
      later new u = run_from m g input c (k + 1) new u

      go : (x y : Next X) → Longer rest n x y → (new : ℕ) → new ≤ n
          → n < (onward y (longer rest s) (k + 1) new (later new)).mark
          → ((u : State X) → length u.cells ≡ n → u.at.top ≤ n → new ≤ n → n < (later new (longer rest u)).mark
          → ((later new u).outcome ≡ 2) × ((later new u).trap ≡ 7))
          → ((onward x s (k + 1) new (later new)).outcome ≡ 2) × ((onward x s (k + 1) new (later new)).trap ≡ 7)
      go x y (longer_goes top cells e) new low past on = on _ cells top low (rw e at past)
      go x y longer_end new low past on = absurd (omega arith)
      go x y (longer_trap cells e) new low past on = absurd (omega arith)
      go x y (longer_stuck cells e) new low past on = absurd (omega arith)

      by : Dec (asked s size high ≤ n)
          → ((u : State X) → length u.cells ≡ n → u.at.top ≤ n → raised g s mark ≤ n
          → n < (later (raised g s mark) (longer rest u)).mark
          → ((later (raised g s mark) u).outcome ≡ 2) × ((later (raised g s mark) u).trap ≡ 7))
          → ((onward (step_of m g input s) s (k + 1) (raised g s mark) (later (raised g s mark))).outcome ≡ 2)
          × ((onward (step_of m g input s) s (k + 1) (raised g s mark) (later (raised g s mark))).trap ≡ 7)
      by (yes fits) on =
          let raises = same_raised s size high mark fits in
          go _ _ (step_longer s size high fits) (raised g s mark)
          (unfold raised in omega (arith, same_asked s size high fits)) (rw raises at past) on
      by (no beyond) on = rw (step_short s size high (omega arith)) (refl, refl)
