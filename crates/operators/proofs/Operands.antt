-- Laws of the operands' kinds: those that belong together, and others.
use mathlib.Core.Path.{◌≡◌, refl}
use mathlib.Core.Bool.{Bool, false}
use mathlib.Core.List.{[], ◌∷◌}
use Prim.Native.Nat.{ℕ}
use denote.Enum.Declared.{tag_of}
use types.Run.{OneOf}
use lib.IntN.{ℤ}
use Rattle.values.specs.Values.{as_boolean, as_integer, as_set}
use Rattle.operators.specs.Operators.{integers_of, sets_of, booleans_of, membership_of, dyadic_of, decides}
use Rattle.values.specs.declared.Value.{Value}
use Rattle.values.specs.declared.Value.TheVariants as Vs
use Rattle.values.specs.contracts.Value.{the_type}
use Rattle.values.specs.declared.Stop.TheVariants as St
use Rattle.values.proofs.Cases.{no_boolean, no_set}
use Rattle.std.specs.Prelude.{Err}

-- ---- operands that belong together

module _ (op : ℕ) where
  pub two_booleans : (p q : Bool) → dyadic_of op (Vs.Bool p) (Vs.Bool q) ≡ booleans_of op p q
  unfolding dyadic_of as_boolean
  two_booleans p q = refl

  pub two_integers : (x y : ℤ) → dyadic_of op (Vs.Int x) (Vs.Int y) ≡ integers_of op x y
  unfolding dyadic_of as_integer
  two_integers x y = refl

  pub integer_and_set : (x : ℤ) (t : ℕ) → dyadic_of op (Vs.Int x) (Vs.Set t) ≡ membership_of op x t
  unfolding dyadic_of as_integer as_set
  integer_and_set x t = refl

  pub two_sets : (s t : ℕ) → dyadic_of op (Vs.Set s) (Vs.Set t) ≡ sets_of op s t
  unfolding dyadic_of as_set
  two_sets s t = refl

-- ---- let .. else: an operand of another kind

-- an INTEGER and a BOOLEAN
pub not_integer : (op : ℕ) (x : ℤ) (q : Bool) → dyadic_of op (Vs.Int x) (Vs.Bool q) ≡ Err St.Stuck
unfolding dyadic_of as_integer as_set
not_integer op x q = refl

-- no BOOLEAN beside a BOOLEAN
pub not_booleans : (op : ℕ) (p : Bool) (w : Value) → ((q : Bool) → w ≡ Vs.Bool q → ⊥)
    → dyadic_of op (Vs.Bool p) w ≡ Err St.Stuck
unfolding dyadic_of as_boolean
not_booleans op p (Vs.Bool q) h = absurd (h q refl)
not_booleans op p (Vs.Int y) h = refl
not_booleans op p (Vs.Set t) h = refl

-- no SET beside a SET
pub not_sets : (op : ℕ) (s : ℕ) (w : Value) → ((t : ℕ) → w ≡ Vs.Set t → ⊥) → dyadic_of op (Vs.Set s) w ≡ Err St.Stuck
unfolding dyadic_of as_set
not_sets op s (Vs.Bool q) h = refl
not_sets op s (Vs.Int y) h = refl
not_sets op s (Vs.Set t) h = absurd (h t refl)

-- only a BOOLEAN decides
pub no_boolean_decides : (op : ℕ) (v : Value) → ((p : Bool) → v ≡ Vs.Bool p → ⊥) → decides op v ≡ false
unfolding decides as_boolean
no_boolean_decides op (Vs.Bool p) h = absurd (h p refl)
no_boolean_decides op (Vs.Int x) h = refl
no_boolean_decides op (Vs.Set s) h = refl
