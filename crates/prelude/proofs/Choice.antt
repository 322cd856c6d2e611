-- Laws of choice, and the facts of a branch as the tests of a definition.
use mathlib.Core.Path.{◌≡◌, refl, sym}
use mathlib.Core.Bool.{Bool, true, false, ◌||◌}
use mathlib.Core.Logic.{◌⊎◌, inl, inr}
use Prim.Native.Nat.{ℕ}
use native.Mathlib.Omega.{arith}
use borrow.Author.Tests.{lt-leb, le-leb, lt-ltb, le-ltb, ne_eqb, eq-eqb}
use Rattle.prelude.specs.Choice.{choose, ◌also◌}

-- turns the facts of branches into the tests of a definition
pub ruleset tests = (lt-leb, le-leb, lt-ltb, le-ltb, ne_eqb, eq-eqb)

-- true is not false
pub clash {ℓ} : {C : Type ℓ} → true ≡ false → C
clash e = let z : ◌≡◌ {A = ℕ} 0 1 = cc in absurd (omega arith)

-- what is not true is false
pub not_yes : (a : Bool) → (a ≡ true → ⊥) → a ≡ false
not_yes true h = absurd (h refl)
not_yes false h = refl

-- two tests that are true together are the same
pub same_truth : (a b : Bool) → (a ≡ true → b ≡ true) → (b ≡ true → a ≡ true) → a ≡ b
same_truth true b f h = sym (f refl)
same_truth false true f h = h refl
same_truth false false f h = refl

module _ {X : Type 0} where
  pub choose_yes : (b : Bool) (x y : X) → b ≡ true → choose b x y ≡ x
  unfolding choose
  choose_yes b x y e = rw e

  pub choose_no : (b : Bool) (x y : X) → b ≡ false → choose b x y ≡ y
  unfolding choose
  choose_no b x y e = rw e

  pub choose_same : (b : Bool) (x : X) → choose b x x ≡ x
  unfolding choose
  choose_same true x = refl
  choose_same false x = refl

  -- which of the two it is
  pub choose_cases : (b : Bool) {x y z : X} → choose b x y ≡ z → ((b ≡ true) × (x ≡ z)) ⊎ ((b ≡ false) × (y ≡ z))
  unfolding choose
  choose_cases true e = inl (refl, e)
  choose_cases false e = inr (refl, e)

-- what both branches of a choice have
pub choose_has : {X : Type 0} (P : X → Type 0) (b : Bool) {x y : X} → (b ≡ true → P x) → (b ≡ false → P y)
    → P (choose b x y)
unfolding choose
choose_has P true p q = p refl
choose_has P false p q = q refl

pub also_true : (a b : Bool) → (a also b) ≡ true → (a ≡ true) × (b ≡ true)
unfolding ◌also◌
also_true true b e = (refl, e)
also_true false b e = clash (cc)

pub also_yes : {a b : Bool} → a ≡ true → b ≡ true → (a also b) ≡ true
unfolding ◌also◌
also_yes {a} {b} p q = rw (p, q)

pub also_left : {a : Bool} (b : Bool) → a ≡ false → (a also b) ≡ false
unfolding ◌also◌
also_left b p = rw p

pub also_right : (a : Bool) {b : Bool} → b ≡ false → (a also b) ≡ false
unfolding ◌also◌
also_right true q = q
also_right false q = refl

pub also_pass : {a : Bool} (b : Bool) → a ≡ true → (a also b) ≡ b
unfolding ◌also◌
also_pass b p = rw p

pub also_first : (a : Bool) {b : Bool} → b ≡ true → (a also b) ≡ a
unfolding ◌also◌
also_first true q = q
also_first false q = refl

pub or_choose : (x y : Bool) → (x || y) ≡ choose y true x
unfolding choose
or_choose true true = refl
or_choose true false = refl
or_choose false true = refl
or_choose false false = refl
