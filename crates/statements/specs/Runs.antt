-- Runs of arguments: a table of them lets question 8 look at each node once, however many calls name it.
use Rattle.std.specs.Prelude.{◌≡◌, Bool, List, ℕ, zero, suc, ◌+◌, ◌-◌, ◌≤◌, ◌<◌, length, get_or}
use Rattle.prelude.specs.Choice.{choose}
use Rattle.image.specs.Rows.{rows_of}
use Rattle.nodes.specs.Nodes.{is_argument}

-- how many of the n rows from k on keep the rule, up to the first that does not
unfoldable pub run_from : (ℕ → Bool) → ℕ → ℕ → ℕ
run_from keeps k zero = 0
run_from keeps k (suc n) = choose (keeps k) (run_from keeps (k + 1) n + 1) 0

-- how many arguments stand in a row from node row k on
unfoldable pub argument_run : List ℕ → ℕ → ℕ
argument_run n k = run_from (is_argument n) k (rows_of n - k)

-- a table of every row's run
pub record Runs (n runs : List ℕ) : Type 0 where
  pub each : (k : ℕ) → get_or runs k 0 ≡ argument_run n k

-- the runs of the node rows are written, and nothing else
pub record RunsIn (n old runs : List ℕ) : Type 0 where
  pub cells : length runs ≡ length old
  pub run : (k : ℕ) → k < rows_of n → get_or runs k 0 ≡ argument_run n k
  pub above : (k : ℕ) → rows_of n ≤ k → get_or runs k 0 ≡ get_or old k 0
