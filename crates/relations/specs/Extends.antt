-- Extension of types.
use Rattle.std.specs.Prelude.{ℕ, Bool, true, false, List, eqb}
use Rattle.prelude.specs.Choice.{choose}
use Rattle.prelude.specs.Rec.{rec}
use Rattle.shapes.specs.Forms.{form, base_of, of_base}

-- "Types are the same if their rows are. T extends U if T is U or T's base extends U."
unfoldable pub extends_to : List ℕ → ℕ → ℕ → Bool
extends_to t u = rec false (λ extends r. choose (eqb r u) true (of_base false extends (base_of (form t r))))

-- row r extends row u
abbrev pub extends : List ℕ → ℕ → ℕ → Bool
extends t r u = extends_to t u r
