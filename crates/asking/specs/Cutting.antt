-- "An unrefused run with its store cut"
use Rattle.std.specs.Prelude.{ℕ, ◌≡◌, take}
use Rattle.semantics.specs.declared.RunResult.{RunResult}
use Rattle.asking.specs.Continuing.{Left}

-- the same with the first n cells of the store alone
unfoldable pub cut : ℕ → Left → Left
cut n l = record { result = l.result; store = take n l.store; output = l.output }

-- trap "7 frame beyond the store"
pub record BeyondStore (r : RunResult) : Type 0 where
  pub refusal : r.refusal ≡ 0
  pub outcome : r.outcome ≡ 2
  pub trap : r.trap ≡ 7
