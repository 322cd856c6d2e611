-- An answer of a kind: a value of the kind, in its range, or a trap.
use mathlib.Core.Path.{◌≡◌, refl}
use mathlib.Core.Bool.{Bool, true, false}
use Prim.Native.Nat.{ℕ, ◌<◌}
use borrow.Author.Tests.{lt-ltb}
use lib.IntN.{ℤ}
use mir.Syntax.{w32}
use mir.Val.{SFits}
use Rattle.prelude.specs.Choice.{choose}
use Rattle.values.specs.Values.{BOOLEAN, INTEGER, SET, kind_of, InRange, is_set, Gives, Answer}
use Rattle.values.specs.Values.InRange.{boolean, integer, set}
use Rattle.values.specs.Values.Gives.{value}
use Rattle.values.specs.declared.Value.{Value}
use Rattle.values.specs.declared.Value.TheVariants as Vs
use Rattle.values.proofs.Numbers.{fits_integer}
use Rattle.std.specs.Prelude.{Ok}

pub gives_boolean : (b : Bool) → Gives BOOLEAN (Ok (Vs.Bool b))
unfolding kind_of
gives_boolean b = value refl boolean

pub gives_integer : (z : ℤ) → SFits w32 z → Gives INTEGER (Ok (Vs.Int z))
unfolding kind_of
gives_integer z h = value refl (integer (fits_integer z h))

pub gives_set : (s : ℕ) → s < 4294967296 → Gives SET (Ok (Vs.Set s))
unfolding kind_of is_set
gives_set s h = value refl (set (lt-ltb s 4294967296 h))

-- one of two answers
pub gives_one : {k : ℕ} (b : Bool) {x y : Answer} → (b ≡ true → Gives k x) → (b ≡ false → Gives k y)
    → Gives k (choose b x y)
unfolding choose
gives_one true f g = f refl
gives_one false f g = g refl

-- a value that an answer of a kind gives
pub gives_kind : {k : ℕ} {r : Value} → Gives k (Ok r) → kind_of r ≡ k
gives_kind (value p h) = p

pub gives_range : {k : ℕ} {r : Value} → Gives k (Ok r) → InRange r
gives_range (value p h) = h
