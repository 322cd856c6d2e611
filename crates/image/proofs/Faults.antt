-- Laws of the lowest row at fault.
use Rattle.std.specs.Prelude.{Ok, Err}
use mathlib.Core.Path.{◌≡◌, refl, sym, ◌∙◌}
use mathlib.Core.Bool.{Bool, true, false}
use mathlib.Core.Logic.{⊎_elim}
use Prim.Native.Nat.{ℕ, zero, suc, ◌+◌, ◌≤◌, ◌<◌}
use native.Mathlib.Omega.{arith}
use native.Mathlib.Decide.{dec_le}
use borrow.Author.Tests.{lt-ltb, le-ltb}
use Rattle.prelude.specs.Choice.{choose, ◌also◌}
use Rattle.prelude.proofs.Choice.{choose_yes, choose_no, choose_cases, also_true, also_yes, also_left, also_right}
use Rattle.image.specs.Faults.{Verdict, first_from, lowest_fault, rule_up_to, all_from, KeptIn, Lowest}

differ : {r : ℕ} {C : Type 0} → ◌≡◌ {A = Verdict} (Err r) (Ok tt) → C
differ e = let z : ◌≡◌ {A = ℕ} 0 1 = cc in absurd (omega arith)

module _ (keeps : ℕ → Bool) where
  -- no row
  pub kept_none : (k : ℕ) → KeptIn keeps k k
  kept_none k = record { each = λ j low high. absurd (omega arith) }

  -- one row more, above or below
  pub kept_next : (k e : ℕ) → KeptIn keeps k e → keeps e ≡ true → KeptIn keeps k (e + 1)
  kept_next k e rest here = record { each = λ j low high. go j (dec_le e j) low high }
    where
      go : (j : ℕ) → Dec (e ≤ j) → k ≤ j → j < e + 1 → keeps j ≡ true
      go j (yes h) low high = let q : e ≡ j = omega arith in rw (← q) here
      go j (no h) low high = rest.each j low (omega arith)

  kept_more : (k e : ℕ) → keeps k ≡ true → KeptIn keeps (k + 1) e → KeptIn keeps k e
  kept_more k e here rest = record { each = λ j low high. go j (dec_le (k + 1) j) low high }
    where
      go : (j : ℕ) → Dec (k + 1 ≤ j) → k ≤ j → j < e → keeps j ≡ true
      go j (yes h) low high = rest.each j h high
      go j (no h) low high = let q : k ≡ j = omega arith in rw (← q) here

  from_kept : (n k : ℕ) → first_from keeps k n ≡ Ok tt → KeptIn keeps k (k + n)
  unfolding first_from
  from_kept zero k e = record { each = λ j low high. absurd (omega arith) }
  from_kept (suc n) k e =
      ⊎_elim
      (λ h. let q : k + 1 + n ≡ k + suc n = omega arith in rw q at (kept_more k (k + 1 + n) h.0 (from_kept n (k + 1) h.1)))
      (λ h. differ h.1)
      (choose_cases (keeps k) e)

  kept_from : (n k : ℕ) → KeptIn keeps k (k + n) → first_from keeps k n ≡ Ok tt
  unfolding first_from choose
  kept_from zero k h = refl
  kept_from (suc n) k h =
      rw (h.each k (omega arith) (omega arith))
      (kept_from n (k + 1) (record { each = λ j low high. h.each j (omega arith) (omega arith) }))

  from_fault : (n k r : ℕ) → first_from keeps k n ≡ Err r → (k ≤ r) × (r < k + n) × (keeps r ≡ false) × KeptIn keeps k r
  unfolding first_from
  from_fault zero k r e = differ (sym e)
  from_fault (suc n) k r e =
      ⊎_elim
      (λ h. let (a, b, f, l) = from_fault n (k + 1) r h.1 in (omega arith, omega arith, f, kept_more k r h.0 l))
      (λ h. let q : k ≡ r = cc in (omega arith, omega arith, rw (← q) h.0, record { each = λ j low high. absurd (omega arith) }))
      (choose_cases (keeps k) e)

  fault_from : (n k r : ℕ) → k ≤ r → r < k + n → keeps r ≡ false → KeptIn keeps k r → first_from keeps k n ≡ Err r
  unfolding first_from choose
  fault_from zero k r a b f l = absurd (omega arith)
  fault_from (suc n) k r a b f l =
      go (dec_le (k + 1) r)
      (λ h. fault_from n (k + 1) r h (omega arith) f (record { each = λ j low high. l.each j (omega arith) high }))
    where
      go : Dec (k + 1 ≤ r) → (k + 1 ≤ r → first_from keeps (k + 1) n ≡ Err r)
          → choose (keeps k) (first_from keeps (k + 1) n) (Err k) ≡ Err r
      go (yes h) rest = rw (l.each k (omega arith) (omega arith)) (rest h)
      go (no h) rest = let q : k ≡ r = omega arith in rw (q, f)

  -- none at fault gives the rule at every row, and the other way round
  pub verdict_kept : (n : ℕ) → lowest_fault keeps n ≡ Ok tt → (j : ℕ) → j < n → keeps j ≡ true
  unfolding lowest_fault
  verdict_kept n e j h = (from_kept n 0 e).each j (omega arith) (omega arith)

  pub kept_verdict : (n : ℕ) → ((j : ℕ) → j < n → keeps j ≡ true) → lowest_fault keeps n ≡ Ok tt
  unfolding lowest_fault
  kept_verdict n h = kept_from n 0 (record { each = λ j low high. h j (omega arith) })

  -- the first at fault is at fault and no lower one is, and the other way round
  pub verdict_fault : (n r : ℕ) → lowest_fault keeps n ≡ Err r → Lowest keeps n r
  unfolding lowest_fault
  verdict_fault n r e =
      let (a, b, f, l) = from_fault n 0 r e in
      record { within = omega arith; fault = f; lower = λ j h. l.each j (omega arith) h }

  pub fault_verdict : (n r : ℕ) → Lowest keeps n r → lowest_fault keeps n ≡ Err r
  unfolding lowest_fault
  fault_verdict n r h =
      let w = h.within in
      fault_from n 0 r (omega arith) (omega arith) h.fault (record { each = λ j low high. h.lower j high })

-- a loop over the rows that stops at the first fault
module _ (keeps : ℕ → Bool) (n r : ℕ) (kept : KeptIn keeps 0 r) where
  pub scan_bad : r < n → keeps r ≡ false → Err r ≡ lowest_fault keeps n
  scan_bad h bad =
      sym (fault_verdict keeps n r (record { within = h; fault = bad; lower = λ j low. kept.each j (omega arith) low }))

  pub scan_end : n ≤ r → Ok tt ≡ lowest_fault keeps n
  scan_end h = sym (kept_verdict keeps n (λ j low. kept.each j (omega arith) (omega arith)))

-- a rule for each of n rows, and one row more for what no row claims
module _ (keeps : ℕ → Bool) (n : ℕ) (none : Bool) where
  abbrev rule : ℕ → Bool
  rule = rule_up_to keeps n none

  rule_low : (r : ℕ) → r < n → rule r ≡ keeps r
  unfolding rule_up_to
  rule_low r h = choose_yes _ _ _ (lt-ltb r n h)

  rule_top : (r : ℕ) → n ≤ r → rule r ≡ none
  unfolding rule_up_to
  rule_top r h = choose_no _ _ _ (le-ltb r n h)

  -- none at fault: the rows keep the rule, and nothing is unclaimed
  pub up_to_kept : lowest_fault (rule_up_to keeps n none) (n + 1) ≡ Ok tt → KeptIn keeps 0 n × (none ≡ true)
  up_to_kept e =
      let kept = verdict_kept rule (n + 1) e in
      let rows : KeptIn keeps 0 n = record { each = λ j low high. sym (rule_low j high) ∙ kept j (omega arith) } in
      (rows, sym (rule_top n (omega arith)) ∙ kept n (omega arith))

  -- a loop over the rows that stops at the first fault
  module _ (r : ℕ) (kept : KeptIn keeps 0 r) (within : r ≤ n) where
    rules : KeptIn rule 0 r
    rules = record { each = λ j low high. rule_low j (omega arith) ∙ kept.each j low high }

    pub up_to_bad : r < n → keeps r ≡ false → Err r ≡ lowest_fault (rule_up_to keeps n none) (n + 1)
    up_to_bad h bad = scan_bad rule (n + 1) r rules (omega arith) (rule_low r h ∙ bad)

    pub up_to_some : n ≤ r → none ≡ false → Err r ≡ lowest_fault (rule_up_to keeps n none) (n + 1)
    up_to_some h some = scan_bad rule (n + 1) r rules (omega arith) (rule_top r h ∙ some)

    pub up_to_end : n ≤ r → none ≡ true → Ok tt ≡ lowest_fault (rule_up_to keeps n none) (n + 1)
    up_to_end h e = scan_end rule (n + 1) (r + 1) (kept_next rule 0 r rules (rule_top r h ∙ e)) (omega arith)

from_same : (f g : ℕ → Bool) (n k : ℕ) → ((j : ℕ) → k ≤ j → j < k + n → f j ≡ g j) → first_from f k n ≡ first_from g k n
unfolding first_from
from_same f g zero k h = refl
from_same f g (suc n) k h =
    rw (h k (omega arith) (omega arith), from_same f g n (k + 1) (λ j low high. h j (omega arith) (omega arith)))

-- rules that agree on the rows have the same verdict
pub verdict_same : (f g : ℕ → Bool) (n : ℕ) → ((j : ℕ) → j < n → f j ≡ g j) → lowest_fault f n ≡ lowest_fault g n
unfolding lowest_fault
verdict_same f g n h = from_same f g n 0 (λ j low high. h j (omega arith))

-- ---- all rows of a stretch

module _ (keeps : ℕ → Bool) where
  pub all_each : (n k : ℕ) → all_from keeps k n ≡ true → KeptIn keeps k (k + n)
  unfolding all_from
  all_each zero k e = record { each = λ j low high. absurd (omega arith) }
  all_each (suc n) k e =
      let (here, rest) = also_true _ _ e in
      let q : k + 1 + n ≡ k + suc n = omega arith in
      rw q at (kept_more keeps k (k + 1 + n) here (all_each n (k + 1) rest))

  pub each_all : (n k : ℕ) → KeptIn keeps k (k + n) → all_from keeps k n ≡ true
  unfolding all_from
  each_all zero k h = refl
  each_all (suc n) k h =
      also_yes (h.each k (omega arith) (omega arith))
      (each_all n (k + 1) (record { each = λ j low high. h.each j (omega arith) (omega arith) }))

  pub not_all : (n k j : ℕ) → k ≤ j → j < k + n → keeps j ≡ false → all_from keeps k n ≡ false
  unfolding all_from
  not_all zero k j a b f = absurd (omega arith)
  not_all (suc n) k j a b f =
      go (dec_le (k + 1) j) (λ h. not_all n (k + 1) j h (omega arith) f)
    where
      go : Dec (k + 1 ≤ j) → (k + 1 ≤ j → all_from keeps (k + 1) n ≡ false) → (keeps k also all_from keeps (k + 1) n) ≡ false
      go (yes h) rest = also_right (keeps k) (rest h)
      go (no h) rest = let q : k ≡ j = omega arith in also_left (all_from keeps (k + 1) n) (rw q f)
