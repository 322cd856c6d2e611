-- How often a node is named.
use Rattle.std.specs.Prelude.{◌≡◌, Bool, true, false, ◌||◌, List, ℕ, zero, suc, ◌<◌, eqb, length, get_or}
use Rattle.prelude.specs.Choice.{choose}
use Rattle.names.specs.declared.Often.{Often}
use Rattle.names.specs.declared.Often.TheVariants.{Never, Once, More}
use Rattle.names.specs.Names.{count_in}

-- which of the three, "never, once or more often", holds of a node that has so many names
unfoldable pub often_of : ℕ → Often
often_of count = choose (eqb count 0) Never (choose (eqb count 1) Once More)

unfoldable pub is_once : Often → Bool
is_once Never = false
is_once Once = true
is_once More = false

-- "These bytes are shown to say which of the three holds of each node": row by row, by counting the names themselves
pub record Says (names : List ℕ) (table : List Often) : Type 0 where
  pub each : (k : ℕ) → k < length table → get_or table k Never ≡ often_of (count_in k names)

-- which of the three after one name more, and after so many
unfoldable pub more : Often → Often
more Never = Once
more Once = More
more More = More

unfoldable pub after : ℕ → Often → Often
after zero often = often
after (suc count) often = after count (more often)

-- a table after these names, whatever it said: a name of a row that it does not have changes nothing
pub record Named (names : List ℕ) (old table : List Often) : Type 0 where
  pub rows : length table ≡ length old
  pub each : (k : ℕ) → k < length old → get_or table k Never ≡ after (count_in k names) (get_or old k Never)

-- which of its numbers a row names, by its kind: a node its a, or its b; a statement its a
unfoldable pub node_names_a : ℕ → Bool
node_names_a kind = eqb kind 2 || eqb kind 3 || eqb kind 5 || eqb kind 6 || eqb kind 8

unfoldable pub node_names_b : ℕ → Bool
node_names_b kind = eqb kind 3 || eqb kind 5

unfoldable pub statement_names_a : ℕ → Bool
statement_names_a kind = eqb kind 0 || eqb kind 2 || eqb kind 5 || eqb kind 6 || eqb kind 7
