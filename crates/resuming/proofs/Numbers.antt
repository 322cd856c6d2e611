-- Tests of a result's numbers.
use mathlib.Core.Path.{◌≡◌, refl, sym, ◌∙◌, ap}
use mathlib.Core.Bool.{Bool, true, false}
use Prim.Native.Nat.{ℕ, ◌+◌, ◌-◌, ◌≤◌}
use native.Mathlib.Omega.{arith}
use native.Mathlib.Decide.{dec_le}
use borrow.Author.Tests.{eqb-true, eq-eqb, le-leb, lt-leb}
use lib.Dec.{leb, eqb}
use lib.IntN.{ℤ}
use mir.Syntax.{w32}
use mir.Val.{to_z, of_z}
use Rattle.prelude.proofs.Choice.{clash, not_yes}
use Rattle.asking.specs.State.{is_number}
use Rattle.asking.proofs.Built.{number_is}
use Rattle.asking.proofs.Told.{number_same}

-- a number of 32 bits with a sign is 0
pub zero_told : (z : ℤ) → to_z w32 (of_z w32 z) ≡ z → eqb (of_z w32 z) 0 ≡ is_number z 0
zero_told z back = go (eqb (of_z w32 z) 0) refl
  where
    go : (b : Bool) → eqb (of_z w32 z) 0 ≡ b → b ≡ is_number z 0
    go true e = sym (number_same z 0 (sym back ∙ ap (λ n. to_z w32 n) (eqb-true (of_z w32 z) 0 e)))
    go false e =
        sym (not_yes _ (λ is. clash (sym (eq-eqb _ 0 (ap (λ (y : ℤ). of_z w32 y) (number_is z 0 is))) ∙ e)))

-- steps lent do not exceed what the steps done leave
pub steps_told : (done steps : ℕ) → done ≤ 4294967295
    → leb steps (4294967295 - done) ≡ leb (done + steps) 4294967295
steps_told done steps low = go (dec_le steps (4294967295 - done))
  where
    go : Dec (steps ≤ 4294967295 - done) → leb steps (4294967295 - done) ≡ leb (done + steps) 4294967295
    go (yes h) = le-leb _ _ h ∙ sym (le-leb (done + steps) _ (omega arith))
    go (no h) = lt-leb steps (4294967295 - done) (omega arith) ∙ sym (lt-leb (done + steps) 4294967295 (omega arith))
