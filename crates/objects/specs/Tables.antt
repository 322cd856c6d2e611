-- The tables of all types.
use Rattle.std.specs.Prelude.{ℕ, List}
use Rattle.image.specs.Rows.{rows_of}
use Rattle.objects.specs.Begins.{begins_at}
use Rattle.objects.specs.Looking.{held, Edges}

-- how many words a table has, and bits a word: the constant of the code once more
abbrev pub ROWS : ℕ
ROWS = 64

-- every bit of the tables is that of its type
pub record AllEdges (t f plan starts ends : List ℕ) : Type 0 where
  pub each : (w : ℕ) → Edges (begins_at t f w) (held plan) w (rows_of t) starts ends
