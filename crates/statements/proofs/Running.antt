-- Laws of the runs of arguments.
use mathlib.Core.Path.{◌≡◌, refl, sym, ◌∙◌, ap}
use mathlib.Core.Bool.{Bool, true, false}
use mathlib.Core.List.{List}
use Prim.Native.Nat.{ℕ, zero, suc, ◌+◌, ◌-◌, ◌≤◌, ◌<◌}
use native.Mathlib.Omega.{arith}
use native.Mathlib.Decide.{dec_lt, dec_le}
use borrow.Author.Tests.{ne_eqb, le-leb, lt-leb}
use lib.Dec.{leb}
use lib.ListN.{length, get_or, set, take, length-set, get_or-eq_default}
use lib.Seq.{length-take-le, get_or-take, get_or-set_same, get_or-set_other}
use Rattle.prelude.specs.Choice.{choose}
use Rattle.prelude.proofs.Choice.{choose_no}
use Rattle.image.specs.Rows.{rows_of}
use Rattle.image.specs.Faults.{all_from}
use Rattle.image.proofs.Bytes.{row_missing}
use Rattle.image.proofs.Faults.{each_all, not_all}
use Rattle.nodes.specs.Nodes.{is_argument}
use Rattle.statements.specs.Runs.{run_from, argument_run, Runs, RunsIn}
use Rattle.statements.specs.Statements.{arguments_kept}

-- ---- a run

module _ (keeps : ℕ → Bool) where
  -- it keeps the rule
  run_kept : (n k j : ℕ) → k ≤ j → j < k + run_from keeps k n → keeps j ≡ true
  unfolding run_from choose
  run_kept zero k j low high = absurd (omega arith)
  run_kept (suc n) k j low high = go (keeps k) refl high (λ a b. run_kept n (k + 1) j a b)
    where
      go : (b : Bool) → keeps k ≡ b → j < k + choose b (run_from keeps (k + 1) n + 1) 0
          → (k + 1 ≤ j → j < k + 1 + run_from keeps (k + 1) n → keeps j ≡ true) → keeps j ≡ true
      go true e h rest = at (dec_lt k j)
        where
          at : Dec (k < j) → keeps j ≡ true
          at (yes l) = rest (omega arith) (omega arith)
          at (no l) = let q : k ≡ j = omega arith in rw (← q) e
      go false e h rest = absurd (omega arith)

  -- and the row behind it does not
  run_stop : (n k : ℕ) → keeps (k + n) ≡ false → keeps (k + run_from keeps k n) ≡ false
  unfolding run_from choose
  run_stop zero k e = e
  run_stop (suc n) k e = go (keeps k) refl (λ a. run_stop n (k + 1) a)
    where
      go : (b : Bool) → keeps k ≡ b → (keeps (k + 1 + n) ≡ false → keeps (k + 1 + run_from keeps (k + 1) n) ≡ false)
          → keeps (k + choose b (run_from keeps (k + 1) n + 1) 0) ≡ false
      go true b rest =
          let q : k + 1 + n ≡ k + suc n = omega arith in
          let p : k + (run_from keeps (k + 1) n + 1) ≡ k + 1 + run_from keeps (k + 1) n = omega arith in
          rw p (rest (rw q e))
      go false b rest = let q : k + 0 ≡ k = omega arith in rw q b

  run_few : (n k : ℕ) → run_from keeps k n ≤ n
  unfolding run_from choose
  run_few zero k = omega arith
  run_few (suc n) k = go (keeps k) (run_few n (k + 1))
    where
      go : (b : Bool) → run_from keeps (k + 1) n ≤ n → choose b (run_from keeps (k + 1) n + 1) 0 ≤ suc n
      go true h = omega arith
      go false h = omega arith

  -- so a stretch keeps the rule just where it is no longer than the run
  run_all : (n k count : ℕ) → keeps (k + n) ≡ false → all_from keeps k count ≡ leb count (run_from keeps k n)
  run_all n k count e = go (dec_le count (run_from keeps k n))
    where
      go : Dec (count ≤ run_from keeps k n) → all_from keeps k count ≡ leb count (run_from keeps k n)
      go (yes h) =
          each_all keeps count k (record { each = λ j low high. run_kept n k j low (omega arith) })
          ∙ sym (le-leb count (run_from keeps k n) h)
      go (no h) =
          not_all keeps count k (k + run_from keeps k n) (omega arith) (omega arith) (run_stop n k e)
          ∙ sym (lt-leb count (run_from keeps k n) (omega arith))

-- ---- arguments in a row

no_argument : (n : List ℕ) (k : ℕ) → rows_of n ≤ k → is_argument n k ≡ false
unfolding is_argument
no_argument n k h = rw (row_missing n k h)

pub argument_run_few : (n : List ℕ) (k : ℕ) → argument_run n k ≤ rows_of n
unfolding argument_run
argument_run_few n k = let h = run_few (is_argument n) (rows_of n - k) k in omega arith

run_none : (n : List ℕ) (k : ℕ) → rows_of n ≤ k → argument_run n k ≡ 0
unfolding argument_run run_from
run_none n k h = let q : rows_of n - k ≡ 0 = omega arith in rw q

run_step : (n : List ℕ) (k : ℕ) → k < rows_of n
    → argument_run n k ≡ choose (is_argument n k) (argument_run n (k + 1) + 1) 0
unfolding argument_run run_from
run_step n k h = let q : rows_of n - k ≡ suc (rows_of n - (k + 1)) = omega arith in rw q

-- count rows from row b on are arguments just where the run is so long
pub run_arguments : (n : List ℕ) (b count : ℕ) → all_from (is_argument n) b count ≡ leb count (argument_run n b)
unfolding argument_run
run_arguments n b count =
    run_all (is_argument n) (rows_of n - b) b count (no_argument n (b + (rows_of n - b)) (omega arith))

module _ (n runs : List ℕ) (r : Runs n runs) (b count : ℕ) where
  pub some_kept : (count ≡ 0 → ⊥) → leb count (get_or runs b 0) ≡ arguments_kept n b count
  unfolding arguments_kept
  some_kept h =
      ap (leb count) (r.each b)
      ∙ sym (run_arguments n b count)
      ∙ sym (choose_no _ _ _ (ne_eqb count 0 h))

-- ---- the loop that writes the table

-- the runs of the rows from i on are written, and `run` is row i's
pub record Written (n old runs : List ℕ) (i run : ℕ) : Type 0 where
  pub within : i ≤ rows_of n
  pub cells : length runs ≡ length old
  pub here : run ≡ argument_run n i
  pub filled : (k : ℕ) → i ≤ k → k < rows_of n → get_or runs k 0 ≡ argument_run n k
  pub above : (k : ℕ) → rows_of n ≤ k → get_or runs k 0 ≡ get_or old k 0

pub written_none : (n old : List ℕ) → Written n old old (rows_of n) 0
written_none n old = record {
  within = omega arith;
  cells = refl;
  here = sym (run_none n (rows_of n) (omega arith));
  filled = λ k low high. absurd (omega arith);
  above = λ k h. refl;
}

pub written_next : (n old runs : List ℕ) (i j run x : ℕ) → Written n old runs i run → i ≡ j + 1 → j < length runs
    → x ≡ choose (is_argument n j) (run + 1) 0 → Written n old (set runs j x) j x
written_next n old runs i j run x w at room e = record {
  within = let h = w.within in omega arith;
  cells = length-set runs j x ∙ w.cells;
  here = here;
  filled = λ k low high. go k (dec_lt j k) low high;
  above = λ k h. let l = w.within in get_or-set_other runs j k x 0 (omega arith) ∙ w.above k h;
}
  where
    here : x ≡ argument_run n j
    here = let l = w.within in e ∙ sym (run_step n j (omega arith) ∙ rw (← at, ← w.here))

    go : (k : ℕ) → Dec (j < k) → j ≤ k → k < rows_of n → get_or (set runs j x) k 0 ≡ argument_run n k
    go k (yes l) low high = get_or-set_other runs j k x 0 (omega arith) ∙ w.filled k (omega arith) high
    go k (no l) low high = let q : j ≡ k = omega arith in rw (← q) (get_or-set_same runs j x 0 room ∙ here)

-- as far as there are rows, it is the table
pub runs_all : (n old runs : List ℕ) → RunsIn n old runs → rows_of n ≤ length old → Runs n (take (rows_of n) runs)
runs_all n old runs f room = record { each = λ k. go k (dec_lt k (rows_of n)) }
  where
    long : length (take (rows_of n) runs) ≡ rows_of n
    long = length-take-le (rows_of n) runs (rw f.cells room)

    go : (k : ℕ) → Dec (k < rows_of n) → get_or (take (rows_of n) runs) k 0 ≡ argument_run n k
    go k (yes l) = get_or-take (rows_of n) runs k 0 l ∙ f.run k l
    go k (no l) =
        get_or-eq_default (take (rows_of n) runs) 0 {n = k} (rw long (omega arith)) ∙ sym (run_none n k (omega arith))
