-- A run whose store is cut: on the bare machine from any state, then from the fresh one and from one that a run goes on
-- from.
use mathlib.Core.Path.{◌≡◌, refl, sym, ◌∙◌, ap}
use mathlib.Core.List.{List, ◌++◌, append_assoc, map-id}
use Prim.Native.Nat.{ℕ, ◌≤◌, ◌<◌}
use native.Mathlib.Omega.{arith}
use lib.IntN.{ℤ}
use lib.ListN.{length, take, drop}
use lib.Seq.{take-append_seam, drop-append_seam, drop-append-le}
use Rattle.checker.proofs.Accepted.{AcceptedTables}
use Rattle.semantics.specs.Memory.{bare}
use Rattle.semantics.specs.Layout.{Program}
use Rattle.semantics.specs.Stepping.{State}
use Rattle.semantics.specs.Running.{first_top, fresh_cells, fresh, run_from, numbers_of}
use Rattle.asking.specs.Continuing.{Left}
use Rattle.asking.proofs.Continuing.{left_by}
use Rattle.asking.specs.Cutting.{cut, BeyondStore}
use Rattle.semantics.proofs.Longer.{longer}
use Rattle.semantics.proofs.LongerRuns.{longer_ended, RunsLonger, run_longer, run_short}

-- s is a state in a store of n cells; `short` and `whole` are what a run leaves from there, and from the same state in
-- the longer store
module _ (g : Program)
    (ok : AcceptedTables g.types g.fields g.variables g.procedures g.nodes g.statements)
    (input rest : List ℤ) (c k mark : ℕ) (s : State ℤ) (n : ℕ) (size : length s.cells ≡ n) (high : s.at.top ≤ n)
    {short whole : Left} (is_short : short ≡ left_by (run_from bare g input c k mark s))
    (is_whole : whole ≡ left_by (run_from bare g input c k mark (longer rest s))) where
  abbrev marked : whole.result.mark ≡ (run_from bare g input c k mark (longer rest s)).mark
  marked = unfold numbers_of in ap (λ (l : Left). l.result.mark) is_whole

  module _ (low : whole.result.mark ≤ n) where
    runs : RunsLonger rest n (run_from bare g input c k mark s) (run_from bare g input c k mark (longer rest s))
    runs = run_longer bare g ok input rest n c k mark s size high (omega (arith, marked))

    many : length short.store ≡ n
    many = ap (λ (l : Left). length l.store) is_short ∙ runs.cells

    -- the longer store's run leaves the shorter one's cells, and then its own
    lengthened : whole ≡ record { result = short.result; store = short.store ++ rest; output = short.output }
    unfolding longer_ended longer numbers_of
    lengthened = is_whole ∙ rw (runs.same, is_short)

    -- "the same result and the same cells below"
    pub same_short : short ≡ cut n whole
    unfolding cut
    same_short =
        let seam : take n (short.store ++ rest) ≡ short.store =
        ap (λ i. take i (short.store ++ rest)) (sym many) ∙ take-append_seam short.store rest in
        sym (ap (cut n) lengthened ∙ rw seam)

    -- what is above is left as it was
    pub same_rest : drop n whole.store ≡ rest
    same_rest =
        ap (λ (l : Left). drop n l.store) lengthened
        ∙ ap (λ i. drop i (short.store ++ rest)) (sym many) ∙ drop-append_seam short.store rest

  pub too_short : mark ≤ n → n < whole.result.mark → BeyondStore short.result
  unfolding numbers_of
  too_short low past =
      let (outcome, trap) = run_short bare g ok input rest n c k mark s size high low (omega (arith, marked)) in
      rw is_short (record { refusal = refl; outcome = outcome; trap = trap })

-- the fresh state in a longer store
pub fresh_longer : (g : Program) (store rest output : List ℤ) → first_top g ≤ length store
    → fresh bare g (store ++ rest) output ≡ longer rest (fresh bare g store output)
unfolding fresh fresh_cells longer bare
fresh_longer g store rest output low =
    rw (drop-append-le (first_top g) store rest low, map-id (drop (first_top g) store ++ rest), map-id (drop (first_top g) store))
    (simp append_assoc)
