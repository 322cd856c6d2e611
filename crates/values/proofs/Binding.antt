-- Laws of let .. else: answers without a value.
use mathlib.Core.Path.{◌≡◌, refl}
use mathlib.Core.List.{[], ◌∷◌}
use mathlib.Core.Logic.{⊎_elim}
use Prim.Native.Nat.{ℕ}
use native.Mathlib.Omega.{arith}
use types.Run.{OneOf}
use Rattle.values.specs.Values.{bind, Answer}
use Rattle.values.specs.declared.Value.{Value}
use Rattle.values.specs.declared.Stop.{Stop}
use Rattle.std.specs.Prelude.{Ok, Err}

-- a tag that is neither of two is not among them
pub neither : {a b c : ℕ} {X : Type 0} → (a ≡ b → ⊥) → (a ≡ c → ⊥) → OneOf (b ∷ c ∷ []) a → X
neither p q t = absurd (⊎_elim p q t)

-- an answer with a value goes on with it, and another is handed on
pub bind_value : {a : Answer} {v : Value} → a ≡ Ok v → (next : Value → Answer) → bind a next ≡ next v
unfolding bind
bind_value e next = rw e

pub bind_stop : {a : Answer} {stop : Stop} → a ≡ Err stop → (next : Value → Answer) → bind a next ≡ Err stop
unfolding bind
bind_stop e next = rw e

pub bind_other : (a : Answer) → ((v : Value) → a ≡ Ok v → ⊥) → (next : Value → Answer) → bind a next ≡ a
unfolding bind
bind_other (Ok v) h next = absurd (h v refl)
bind_other (Err stop) h next = refl
