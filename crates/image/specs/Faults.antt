-- The lowest row at fault.
use Rattle.std.specs.Prelude.{Result, Ok, Err, ◌≡◌, ℕ, zero, suc, ◌+◌, ◌≤◌, ◌<◌, Bool, true, false, ltb}
use Rattle.prelude.specs.Choice.{choose, ◌also◌}

-- what a question says of a table: every row keeps its rule, or the lowest row that does not
abbrev pub Verdict : Type 0
Verdict = Result (Unit {0}) ℕ

-- the first of the n rows from k on that does not keep the rule
unfoldable pub first_from : (ℕ → Bool) → ℕ → ℕ → Verdict
first_from keeps k zero = Ok tt
first_from keeps k (suc n) = choose (keeps k) (first_from keeps (k + 1) n) (Err k)

-- "the row is the lowest at fault": of the rows 0 to n - 1
unfoldable pub lowest_fault : (ℕ → Bool) → ℕ → Verdict
lowest_fault keeps n = first_from keeps 0 n

-- a rule for each of n rows, and for one row more, which stands for what no row claims: whether there is none
unfoldable pub rule_up_to : (ℕ → Bool) → ℕ → Bool → ℕ → Bool
rule_up_to keeps n none r = choose (ltb r n) (keeps r) none

-- each of the n rows from k on keeps the rule
unfoldable pub all_from : (ℕ → Bool) → ℕ → ℕ → Bool
all_from keeps k zero = true
all_from keeps k (suc n) = keeps k also all_from keeps (k + 1) n

-- the rows from k on and below e keep the rule
pub record KeptIn (keeps : ℕ → Bool) (k e : ℕ) : Type 0 where
  pub each : (j : ℕ) → k ≤ j → j < e → keeps j ≡ true

-- the row is at fault, and no lower one is
pub record Lowest (keeps : ℕ → Bool) (n r : ℕ) : Type 0 where
  pub within : r < n
  pub fault : keeps r ≡ false
  pub lower : (j : ℕ) → j < r → keeps j ≡ true
