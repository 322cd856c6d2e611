-- Recursion over the rows of a table in which a row names lower rows only.
use Rattle.std.specs.Prelude.{ℕ, zero, suc, ltb}
use Rattle.prelude.specs.Choice.{choose}

-- what `f` gives below row `r`, and `none` from there on
unfoldable pub below : {X : Type 0} → X → ℕ → (ℕ → X) → ℕ → X
below none r f k = choose (ltb k r) (f k) none

-- `n` turns of the recursion
unfoldable pub turns : {X : Type 0} → X → ((ℕ → X) → ℕ → X) → ℕ → ℕ → X
turns none step zero r = none
turns none step (suc n) r = step (below none r (turns none step n)) r

-- Row by row: `step` gives a row's result from those of the rows below it. It is handed `none` for any other row.
-- A row has fewer rows below it than `suc r`, so that many turns are enough (proofs/Rec, `rec_eq`).
unfoldable pub rec : {X : Type 0} → X → ((ℕ → X) → ℕ → X) → ℕ → X
rec none step r = turns none step (suc r) r
