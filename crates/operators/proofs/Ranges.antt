-- Each result of an operator is in its kind's range.
use Rattle.std.specs.Prelude.{Option, Ok}
use mathlib.Core.Path.{◌≡◌}
use Prim.Native.Nat.{ℕ}
use Rattle.values.specs.Values.{InRange, Answer}
use Rattle.operators.specs.Operators.{dyadic_of, monadic_of}
use Rattle.values.specs.declared.Value.{Value}
use Rattle.values.proofs.Cells.{no_value}
use Rattle.values.proofs.Giving.{gives_range}
use Rattle.operators.proofs.Typed.{Agree, dyadic_agree, monadic_agree}
use Rattle.operators.proofs.Typed.Agree.{typed, untyped}

-- operators, typed or not

agree_range : {H : Type 0} {x : (Option ℕ)} {a : Answer} {r : Value} → Agree H x a → H → a ≡ Ok r → InRange r
agree_range (typed f) h e = gives_range (rw e at (f h))
agree_range untyped h e = no_value e

pub dyadic_range : (op : ℕ) {v w r : Value} → dyadic_of op v w ≡ Ok r → InRange v → InRange w → InRange r
dyadic_range op {v} {w} e p q = agree_range (dyadic_agree op v w) (p, q) e

pub monadic_range : (op : ℕ) {v r : Value} → monadic_of op v ≡ Ok r → InRange v → InRange r
monadic_range op {v} e p = agree_range (monadic_agree op v) p e
