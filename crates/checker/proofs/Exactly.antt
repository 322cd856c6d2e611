-- The check accepts exactly the images in which no row is at fault, and otherwise answers the first question with its
-- lowest row at fault.
-- Cited: `check_of`, `question_of` (specs/Check); `Faultless`, `FirstAtFault` (specs/Exactly).
use Rattle.std.specs.Prelude.{Err, Ok}
use Rattle.checker.specs.Check.{refused_at, yes_or_no, table_question, question_of, check_of}
use mathlib.Core.Path.{◌≡◌, refl, sym, ◌∙◌, subst}
use mathlib.Core.Bool.{Bool, true, false}
use mathlib.Core.List.{List}
use Prim.Native.Nat.{ℕ, ◌+◌, ◌≤◌, ◌<◌}
use native.Mathlib.Omega.{arith}
use native.Mathlib.Decide.{dec_le}
use Rattle.prelude.specs.Choice.{choose}
use Rattle.image.specs.Faults.{first_from, lowest_fault}
use Rattle.image.proofs.Faults.{verdict_kept, kept_verdict, verdict_fault, fault_verdict}
use Rattle.header.specs.Header.{question1, question2, question3}
use Rattle.types.specs.Question.{question4}
use Rattle.frames.specs.Variables.{question5}
use Rattle.frames.specs.Procedures.{question6}
use Rattle.nodes.specs.Nodes.{question7}
use Rattle.statements.specs.Statements.{question8}
use Rattle.names.specs.Names.{question9}
use Rattle.typing.specs.Typing.{question10}
use Rattle.rules.specs.Rules.{rules_by, question11}
use Rattle.checker.specs.Exactly.{rule_of, rows_asked, Faultless, FirstAtFault}
use Rattle.checker.proofs.Chain.{accepted_all, all_accepted, refused_first, first_refused}

-- ---- each question asks its rule of its rows

one_row : (b : Bool) → yes_or_no b ≡ lowest_fault (λ r. b) 1
unfolding yes_or_no lowest_fault first_from choose
one_row true = refl
one_row false = refl

-- what holds of k and of every later question holds from k on
from : (P : ℕ → Type 0) (k : ℕ) → P k → ((q : ℕ) → k + 1 ≤ q → q ≤ 11 → P q) → (q : ℕ) → k ≤ q → q ≤ 11 → P q
from P k here later q low high = go (dec_le (k + 1) q)
  where
    go : Dec (k + 1 ≤ q) → P q
    go (yes h) = later q h high
    go (no h) = let same : k ≡ q = omega arith in subst P same here

module _ (image : List ℕ) where
  abbrev Asks : ℕ → Type 0
  Asks q = question_of image q ≡ lowest_fault (rule_of image q) (rows_asked image q)

  question_is : (q : ℕ) → 1 ≤ q → q ≤ 11 → question_of image q ≡ lowest_fault (rule_of image q) (rows_asked image q)
  unfolding question_of table_question rule_of rows_asked choose question4 question5 question6 question7 question8 question9 question10 question11 rules_by
  question_is =
      from Asks 1 (one_row (question1 image))
      (from Asks 2 (one_row (question2 image))
      (from Asks 3 (one_row (question3 image))
      (from Asks 4 refl
      (from Asks 5 refl
      (from Asks 6 refl
      (from Asks 7 refl
      (from Asks 8 refl
      (from Asks 9 refl
      (from Asks 10 refl
      (from Asks 11 refl
      (λ q low high. absurd (omega arith))))))))))))

  kept_rows : (q : ℕ) → 1 ≤ q → q ≤ 11 → question_of image q ≡ Ok tt → (r : ℕ) → r < rows_asked image q → rule_of image q r ≡ true
  kept_rows q low high e = verdict_kept (rule_of image q) (rows_asked image q) (sym (question_is q low high) ∙ e)

  rows_kept : (q : ℕ) → 1 ≤ q → q ≤ 11 → ((r : ℕ) → r < rows_asked image q → rule_of image q r ≡ true) → question_of image q ≡ Ok tt
  rows_kept q low high e = question_is q low high ∙ kept_verdict (rule_of image q) (rows_asked image q) e

  -- ---- the theorem, both directions of each half

  pub accepted_faultless : check_of image ≡ Ok tt → Faultless image
  unfolding check_of
  accepted_faultless e = record {
    each = λ q low high. kept_rows q low high ((accepted_all (question_of image) 11 1 e).each q low (omega arith));
  }

  pub faultless_accepted : Faultless image → check_of image ≡ Ok tt
  unfolding check_of
  faultless_accepted all =
      all_accepted (question_of image) 11 1
      (record { each = λ q low high. rows_kept q low (omega arith) (all.each q low (omega arith)) })

  pub refused_first_fault : (q row : ℕ) → check_of image ≡ Err (refused_at q row) → FirstAtFault image q row
  unfolding check_of
  refused_first_fault q row e =
      let first = refused_first (question_of image) 11 1 q row e in
      let low = first.least in
      let high = first.most in
      record {
        least = low;
        most = omega arith;
        lowest = verdict_fault (rule_of image q) (rows_asked image q) row (sym (question_is q low (omega arith)) ∙ first.fault);
        before = λ i a b. kept_rows i a (omega arith) (first.before i a b);
      }

  pub first_fault_refused : (q row : ℕ) → FirstAtFault image q row → check_of image ≡ Err (refused_at q row)
  unfolding check_of
  first_fault_refused q row first =
      let low = first.least in
      let high = first.most in
      first_refused (question_of image) 11 1 q row
      (record {
        least = low;
        most = omega arith;
        fault = question_is q low high ∙ fault_verdict (rule_of image q) (rows_asked image q) row first.lowest;
        before = λ i a b. rows_kept i a (omega arith) (first.before i a b);
      })
