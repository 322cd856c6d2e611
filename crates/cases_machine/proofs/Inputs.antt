-- The law of inputs that are taken one after the other.
use mathlib.Core.Path.{◌≡◌, ◌∙◌}
use mathlib.Core.List.{List}
use Prim.Native.Nat.{ℕ, ◌+◌, ◌<◌}
use native.Mathlib.Omega.{arith}
use lib.IntN.{ℤ, pos}
use lib.ListN.{length, set}
use lib.Seq.{get_or-set_same, get_or-set_other}
use Rattle.std.proofs.Common.{below_more}
use Rattle.cases_machine.specs.Records.{input_at, Inputs}

-- one input more
pub inputs_next : (bytes : List ℕ) (n : ℕ) (input : List ℤ) (z : ℤ) → Inputs bytes n input → n < length input
    → z ≡ input_at bytes n → Inputs bytes (n + 1) (set input n z)
inputs_next bytes n input z these room e = record {
  place = below_more _ _
      (λ j l. get_or-set_other input n j z (pos 0) (omega arith) ∙ these.place j l)
      (get_or-set_same input n z (pos 0) room ∙ e);
}
