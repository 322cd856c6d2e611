-- Laws of what follows from a value of one kind, once for all uses.
use mathlib.Core.Path.{◌≡◌, refl}
use mathlib.Core.Bool.{Bool}
use mathlib.Core.List.{[], ◌∷◌}
use Prim.Native.Nat.{ℕ}
use native.Mathlib.Omega.{arith}
use denote.Enum.Declared.{tag_of}
use types.Run.{OneOf}
use lib.IntN.{ℤ}
use Rattle.values.specs.Values.{BOOLEAN, INTEGER, kind_of, as_boolean, as_integer, as_set}
use Rattle.values.specs.declared.Value.{Value}
use Rattle.values.specs.declared.Value.TheVariants as Vs
use Rattle.values.specs.contracts.Value.{the_type}
use Rattle.values.proofs.Binding.{neither}

-- ---- whatever the value is: what relates both ways to go on relates the two

module _ {X Y : Type 0} (R : X → Y → Type 0) {x : X} {y : Y} (others : R x y) where
  pub boolean_alike : (v : Value) (k : Bool → X) (l : Bool → Y) → ((b : Bool) → R (k b) (l b))
      → R (as_boolean x v k) (as_boolean y v l)
  unfolding as_boolean
  boolean_alike (Vs.Bool b) k l f = f b
  boolean_alike (Vs.Int z) k l f = others
  boolean_alike (Vs.Set s) k l f = others

  pub integer_alike : (v : Value) (k : ℤ → X) (l : ℤ → Y) → ((z : ℤ) → R (k z) (l z))
      → R (as_integer x v k) (as_integer y v l)
  unfolding as_integer
  integer_alike (Vs.Bool b) k l f = others
  integer_alike (Vs.Int z) k l f = f z
  integer_alike (Vs.Set s) k l f = others

-- what holds of both ways to go on
module _ {X : Type 0} (P : X → Type 0) {x : X} (other : P x) where
  pub boolean_has : (v : Value) (k : Bool → X) → ((b : Bool) → P (k b)) → P (as_boolean x v k)
  boolean_has v k f = boolean_alike (λ y z. P y) {y = x} other v k k f

  pub integer_has : (v : Value) (k : ℤ → X) → ((z : ℤ) → P (k z)) → P (as_integer x v k)
  integer_has v k f = integer_alike (λ y z. P y) {y = x} other v k k f

-- ---- a value of the kind

module _ {X : Type 0} (P : X → Type 0) (x : X) where
  pub boolean_only : (v : Value) (k : Bool → X) → kind_of v ≡ BOOLEAN → ((b : Bool) → P (k b)) → P (as_boolean x v k)
  unfolding as_boolean kind_of
  boolean_only (Vs.Bool b) k e f = f b
  boolean_only (Vs.Int z) k e f = absurd (omega arith)
  boolean_only (Vs.Set s) k e f = absurd (omega arith)

  pub integer_only : (v : Value) (k : ℤ → X) → kind_of v ≡ INTEGER → ((z : ℤ) → P (k z)) → P (as_integer x v k)
  unfolding as_integer kind_of
  integer_only (Vs.Bool b) k e f = absurd (omega arith)
  integer_only (Vs.Int z) k e f = f z
  integer_only (Vs.Set s) k e f = absurd (omega arith)

module _ {X : Type 0} (x : X) {v : Value} where
  pub is_boolean : {b : Bool} (k : Bool → X) → v ≡ Vs.Bool b → as_boolean x v k ≡ k b
  unfolding as_boolean
  is_boolean k e = rw e

  pub is_integer_lem : {z : ℤ} (k : ℤ → X) → v ≡ Vs.Int z → as_integer x v k ≡ k z
  unfolding as_integer
  is_integer_lem k e = rw e

-- ---- let .. else: a value of another kind

module _ {X : Type 0} (x : X) where
  pub no_boolean : (v : Value) (k : Bool → X) → OneOf (1 ∷ 2 ∷ []) (tag_of the_type v) → as_boolean x v k ≡ x
  unfolding as_boolean
  no_boolean (Vs.Bool b) k t = neither (omega arith) (omega arith) t
  no_boolean (Vs.Int z) k t = refl
  no_boolean (Vs.Set s) k t = refl

  pub no_integer : (v : Value) (k : ℤ → X) → OneOf (0 ∷ 2 ∷ []) (tag_of the_type v) → as_integer x v k ≡ x
  unfolding as_integer
  no_integer (Vs.Bool b) k t = refl
  no_integer (Vs.Int z) k t = neither (omega arith) (omega arith) t
  no_integer (Vs.Set s) k t = refl

  pub no_set : (v : Value) (k : ℕ → X) → OneOf (0 ∷ 1 ∷ []) (tag_of the_type v) → as_set x v k ≡ x
  unfolding as_set
  no_set (Vs.Bool b) k t = refl
  no_set (Vs.Int z) k t = refl
  no_set (Vs.Set s) k t = neither (omega arith) (omega arith) t
