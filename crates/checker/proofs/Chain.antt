-- Laws of "The first 'no' decides".
use Rattle.checker.specs.Check.{refused_at, CheckAnswer, asked, first_no}
use Rattle.std.specs.Prelude.{Ok, Err}
use Rattle.image.specs.Faults.{Verdict}
use mathlib.Core.Path.{◌≡◌, refl, sym, ◌∙◌, ap}
use Prim.Native.Nat.{ℕ, zero, suc, ◌+◌, ◌≤◌, ◌<◌}
use native.Mathlib.Omega.{arith}
use native.Mathlib.Decide.{dec_le}
use Rattle.checker.specs.declared.Refusal.{Refusal}

-- ---- one question more

pub asked_kept : (q : ℕ) (x : Verdict) (later : CheckAnswer) → x ≡ Ok tt → asked q x later ≡ later
unfolding asked
asked_kept q x later e = rw e

pub asked_fault : (q : ℕ) (x : Verdict) (later : CheckAnswer) {row : ℕ} → x ≡ Err row → asked q x later ≡ Err (refused_at q row)
unfolding asked
asked_fault q x later e = rw e

-- a question's answer by itself: yes, or the refusal whatever comes later
pub yes_alone : (q : ℕ) (x : Verdict) {u : Unit {0}} → asked q x (Ok tt) ≡ Ok u → x ≡ Ok tt
unfolding asked
yes_alone q (Ok _) e = refl
yes_alone q (Err row) e = cc

no_alone : (q : ℕ) (x : Verdict) (later : CheckAnswer) {r : Refusal} → asked q x (Ok tt) ≡ Err r → asked q x later ≡ Err r
unfolding asked
no_alone q (Ok _) later e = cc
no_alone q (Err row) later e = e

module _ (question : ℕ → Verdict) (q n : ℕ) {x : Verdict} (here : x ≡ question q) where
  pub chain_yes : {u : Unit {0}} → Ok u ≡ asked q x (Ok tt) → first_no question q (suc n) ≡ first_no question (q + 1) n
  unfolding first_no
  chain_yes e = asked_kept q (question q) (first_no question (q + 1) n) (sym here ∙ yes_alone q x (sym e))

  pub chain_no : {r : Refusal} → Err r ≡ asked q x (Ok tt) → first_no question q (suc n) ≡ Err r
  unfolding first_no
  chain_no e = rw (← here) (no_alone q x (first_no question (q + 1) n) (sym e))

  pub chain_next : x ≡ Ok tt → first_no question q (suc n) ≡ first_no question (q + 1) n
  unfolding first_no
  chain_next e = asked_kept q (question q) (first_no question (q + 1) n) (sym here ∙ e)

  pub chain_stop : {row : ℕ} → x ≡ Err row → first_no question q (suc n) ≡ Err (refused_at q row)
  unfolding first_no
  chain_stop e = asked_fault q (question q) (first_no question (q + 1) n) (sym here ∙ e)

  -- the last question alone
  pub chain_last : n ≡ 0 → first_no question q (suc n) ≡ asked q x (Ok tt)
  unfolding first_no
  chain_last e = rw (e, here)

-- ---- both directions

-- every one of n questions from q on is answered by yes
pub record AllKept (question : ℕ → Verdict) (q n : ℕ) : Type 0 where
  pub each : (j : ℕ) → q ≤ j → j < q + n → question j ≡ Ok tt

-- question j is the first that is answered by no, with its row
pub record FirstFault (question : ℕ → Verdict) (q n j row : ℕ) : Type 0 where
  pub least : q ≤ j
  pub most : j < q + n
  pub fault : question j ≡ Err row
  pub before : (i : ℕ) → q ≤ i → i < j → question i ≡ Ok tt

accepted_refused : {r : Refusal} {C : Type 0} → ◌≡◌ {A = CheckAnswer} (Ok tt) (Err r) → C
accepted_refused e = let z : ◌≡◌ {A = ℕ} 0 1 = cc in absurd (omega arith)

module _ (question : ℕ → Verdict) where
  pub accepted_all : (n q : ℕ) → first_no question q n ≡ Ok tt → AllKept question q n
  unfolding first_no
  accepted_all zero q e = record { each = λ j low high. absurd (omega arith) }
  accepted_all (suc n) q e = go (question q) refl (λ rest. accepted_all n (q + 1) rest)
    where
      go : (x : Verdict) → question q ≡ x → (first_no question (q + 1) n ≡ Ok tt → AllKept question (q + 1) n) → AllKept question q (suc n)
      go (Ok _) k later =
          let rest = later (sym (chain_next question q n (sym k) refl) ∙ e) in
          record { each = λ j low high. here j (dec_le (q + 1) j) low high rest }
        where
          here : (j : ℕ) → Dec (q + 1 ≤ j) → q ≤ j → j < q + suc n → AllKept question (q + 1) n → question j ≡ Ok tt
          here j (yes h) low high rest = rest.each j h (omega arith)
          here j (no h) low high rest = let s : q ≡ j = omega arith in rw (← s) k
      go (Err row) k later = accepted_refused (sym e ∙ chain_stop question q n (sym k) refl)

  pub all_accepted : (n q : ℕ) → AllKept question q n → first_no question q n ≡ Ok tt
  unfolding first_no
  all_accepted zero q all = refl
  all_accepted (suc n) q all =
      chain_next question q n refl (all.each q (omega arith) (omega arith))
      ∙ all_accepted n (q + 1) (record { each = λ j low high. all.each j (omega arith) (omega arith) })

  pub refused_first : (n q j row : ℕ) → first_no question q n ≡ Err (refused_at j row) → FirstFault question q n j row
  unfolding first_no
  refused_first zero q j row e = accepted_refused e
  refused_first (suc n) q j row e = go (question q) refl (λ rest. refused_first n (q + 1) j row rest)
    where
      go : (x : Verdict) → question q ≡ x → (first_no question (q + 1) n ≡ Err (refused_at j row) → FirstFault question (q + 1) n j row)
          → FirstFault question q (suc n) j row
      go (Ok _) k later =
          let rest = later (sym (chain_next question q n (sym k) refl) ∙ e) in
          let low = rest.least in
          let high = rest.most in
          record {
            least = omega arith;
            most = omega arith;
            fault = rest.fault;
            before = λ i a b. here i (dec_le (q + 1) i) a b rest;
          }
        where
          here : (i : ℕ) → Dec (q + 1 ≤ i) → q ≤ i → i < j → FirstFault question (q + 1) n j row → question i ≡ Ok tt
          here i (yes h) a b rest = rest.before i h b
          here i (no h) a b rest = let s : q ≡ i = omega arith in rw (← s) k
      go (Err found) k later =
          let same = sym (chain_stop question q n (sym k) refl) ∙ e in
          let one : refused_at q found ≡ refused_at j row = cc in
          let number : q ≡ j = ap (λ (x : Refusal). x.question) one in
          let place : found ≡ row = ap (λ (x : Refusal). x.row) one in
          record {
            least = omega arith;
            most = omega arith;
            fault = rw (← number, ← place) k;
            before = λ i a b. absurd (omega arith);
          }

  pub first_refused : (n q j row : ℕ) → FirstFault question q n j row → first_no question q n ≡ Err (refused_at j row)
  unfolding first_no
  first_refused zero q j row f = let low = f.least in let high = f.most in absurd (omega arith)
  first_refused (suc n) q j row f = go (dec_le (q + 1) j) (λ later. first_refused n (q + 1) j row later)
    where
      go : Dec (q + 1 ≤ j) → (FirstFault question (q + 1) n j row → first_no question (q + 1) n ≡ Err (refused_at j row))
          → first_no question q (suc n) ≡ Err (refused_at j row)
      go (yes h) rest =
          let high = f.most in
          chain_next question q n refl (f.before q (omega arith) (omega arith))
          ∙ rest
          (record { least = h; most = omega arith; fault = f.fault; before = λ i a b. f.before i (omega arith) b })
      go (no h) rest =
          let low = f.least in
          let same : j ≡ q = omega arith in
          rw same (chain_stop question q n refl (rw same at f.fault))
