-- What an operator takes and what it gives are of scalar kinds.
use Rattle.std.specs.Prelude.{Option, Some, None}
use mathlib.Core.Path.{◌≡◌, refl, sym}
use mathlib.Core.Bool.{Bool, true, false, ◌&&◌}
use Prim.Native.Nat.{ℕ}
use native.Mathlib.Omega.{arith}
use borrow.Author.Tests.{leb-true, eqb-true}
use lib.Dec.{leb, eqb}
use Rattle.prelude.specs.Choice.{choose}
use Rattle.prelude.proofs.Choice.{clash}
use Rattle.values.specs.Values.{BOOLEAN, INTEGER, SET, Scalar, Scalar.a_boolean, Scalar.an_integer, Scalar.a_set}
use Rattle.values.proofs.Scalars.{below_scalar}
use Rattle.kinds.specs.Kinds.{integers_kind, sets_kind, booleans_kind, dyadic_kind, monadic_kind}

-- ---- what holds of the kind that an answer has

record Given (P : ℕ → Type 0) (a : Option ℕ) : Type 0 where
  holds : (x : ℕ) → a ≡ Some x → P x

module _ {P : ℕ → Type 0} where
  none : Given P None
  none = record { holds = λ x e. let z : ◌≡◌ {A = ℕ} 0 1 = cc in absurd (omega arith) }

  one : {k : ℕ} → P k → Given P (Some k)
  one {k} h = record { holds = λ x e. let same : k ≡ x = cc in rw same at h }

  when : (b : Bool) {x y : (Option ℕ)} → (b ≡ true → Given P x) → Given P y → Given P (choose b x y)
  unfolding choose
  when true p q = p refl
  when false p q = q

  either : (b : Bool) {x y : (Option ℕ)} → Given P x → Given P y → Given P (choose b x y)
  either b p q = when b (λ e. p) q

-- ---- by the operands' kinds

booleans_scalar : (op : ℕ) → Given Scalar (booleans_kind op)
unfolding booleans_kind
booleans_scalar op = either _ (one a_boolean) (either _ (one a_boolean) none)

integers_scalar : (op : ℕ) → Given Scalar (integers_kind op)
unfolding integers_kind
integers_scalar op = either _ (one an_integer) (either _ (one a_boolean) (either _ (one a_set) none))

sets_scalar : (op : ℕ) → Given Scalar (sets_kind op)
unfolding sets_kind
sets_scalar op = either _ (one a_set) (either _ (one a_set) (either _ (one a_boolean) none))

-- ---- every operator

-- the kinds of two operands, and the one that is given
pub record Operands (left right x : ℕ) : Type 0 where
  pub left_scalar : Scalar left
  pub right_scalar : Scalar right
  pub given_scalar : Scalar x

both : (left right : ℕ) {j k : ℕ} {a : (Option ℕ)} → Scalar j → Scalar k → eqb left j ≡ true → eqb right k ≡ true
    → Given Scalar a → Given (Operands left right) a
both left right {j} {k} p q l r given = record {
  holds = λ x e. record {
    left_scalar = rw (eqb-true left j l) p;
    right_scalar = rw (eqb-true right k r) q;
    given_scalar = given.holds x e;
  };
}

dyadic_given : (op left right : ℕ) → Given (Operands left right) (dyadic_kind op left right)
unfolding dyadic_kind
dyadic_given op left right =
    when (eqb left BOOLEAN) (λ l. when (eqb right BOOLEAN)
    (λ r. both left right a_boolean a_boolean l r (booleans_scalar op)) none)
    (when (eqb left INTEGER) (λ l. when (eqb right INTEGER)
    (λ r. both left right an_integer an_integer l r (integers_scalar op))
    (when (eqb right SET)
    (λ r. both left right an_integer a_set l r (either (eqb op 15) (one a_boolean) none)) none))
    (when (eqb left SET) (λ l. when (eqb right SET)
    (λ r. both left right a_set a_set l r (sets_scalar op)) none) none))

pub dyadic_scalar : (op left right x : ℕ) → dyadic_kind op left right ≡ Some x → Operands left right x
dyadic_scalar op left right = (dyadic_given op left right).holds

both_true : (a b : Bool) → a && b ≡ true → b ≡ true
both_true true b e = e
both_true false b e = clash (sym e)

monadic_given : (op operand : ℕ) → Given (λ x. Scalar operand × Scalar x) (monadic_kind op operand)
unfolding monadic_kind
monadic_given op operand =
    either (eqb op 1)
    (when (leb 1 operand && leb operand 2) (λ e.
    let low = leb-true operand 2 (both_true (leb 1 operand) (leb operand 2) e) in
    let scalar = below_scalar operand (omega arith) in
    one (scalar, scalar)) none)
    (either (eqb op 2) (when (eqb operand BOOLEAN) (λ e.
    one (rw (eqb-true operand BOOLEAN e) a_boolean, a_boolean)) none) none)

-- the operand's kind, and the one that is given
pub monadic_scalar : (op operand x : ℕ) → monadic_kind op operand ≡ Some x → Scalar operand × Scalar x
monadic_scalar op operand = (monadic_given op operand).holds
