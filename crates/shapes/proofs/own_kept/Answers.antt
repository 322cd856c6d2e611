use Rattle.std.proofs.Common.{◌≡◌, ◌+◌, ◌-◌, ◌<◌, ◌≤◌, ℕ, Bool, true, false, sym, ◌∙◌, rules, arith}
use Rattle.std.specs.Bool.{MatchBool}
use Rattle.std.specs.List.{AllWithin, HoldsAt, range_with_len}
use Rattle.std.proofs.lemmas.Iterator.{cases_from_all, YieldsList-from_range}
use Rattle.std.proofs.lemmas.List.FromFn.{length-range_with_len, get_or-range_with_len}
use lib.ListN.{length}
use borrow.Author.Tests.{tests}
use Rattle.image.proofs.Faults.{each_all, not_all}
use Rattle.image.specs.Faults.{all_from}
use Rattle.shapes.specs.Shapes.{field_kept}
use Rattle.shapes.proofs.own_kept.Goals as goal

-- what `all` says of a range
all_is : (keeps : ℕ → Bool) (k n : ℕ) (r : Bool) → let l = range_with_len k n in
    MatchBool r (AllWithin (λ i. keeps i ≡ true) l 0 (length l)) ((j : ℕ) × (j < length l) × HoldsAt (λ i. keeps i ≡ false) l j)
    → r ≡ all_from keeps k n
all_is keeps k n true h =
    sym (each_all keeps n k (record { each = λ j low high. at j (omega arith) (omega arith) }))
  where
    at : (j : ℕ) → k ≤ j → j < k + n → keeps j ≡ true
    at j low high =
        let here : k + (j - k) ≡ j = omega arith in
        let e = get_or-range_with_len k n (j - k) 0 (omega arith) ∙ here in
        rw e at (h (j - k) 0 (omega arith) (omega (arith, length-range_with_len k n)))
all_is keeps k n false h =
    let within : h.0 < n = omega (arith, length-range_with_len k n, h.1) in
    sym (not_all keeps n k (k + h.0) (omega arith) (omega arith)
    (rw (get_or-range_with_len k n h.0 0 within) at (h.2 0)))

pub returns : goal.returns
returns c = let a = c.args in
    all_is (field_kept a.f.now a.r) a.k a.n _
    (cases_from_all _ _ _ (λ i. field_kept a.f.now a.r i ≡ true) (λ i. field_kept a.f.now a.r i ≡ false) c.all.ensures.ran
    (YieldsList-from_range a.k (a.k + a.n) a.n (cc) (omega arith)) (λ x q k. search (rules, tests)) (λ x q k. search (rules, tests)))
