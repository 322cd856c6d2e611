-- Lists of which every member has a property.
use mathlib.Core.Path.{◌≡◌, refl}
use mathlib.Core.List.{List, [], ◌∷◌, ◌++◌, map}
use Prim.Native.Nat.{ℕ, zero, suc}
use lib.ListN.{replicate}
use Rattle.prelude.specs.Parts.{joined, Nth, Nth.here, Nth.there}

pub data Each {X : Type 0} (P : X → Type 0) : List X → Type 0 where
  none : Each P []
  more : {x : X} {l : List X} → P x → Each P l → Each P (x ∷ l)

module _ {X : Type 0} {P : X → Type 0} where
  pub each_append : {l m : List X} → Each P l → Each P m → Each P (l ++ m)
  each_append none h = h
  each_append (more p e) h = more p (each_append e h)

  pub each_repeated : (n : ℕ) {l : List X} → Each P l → Each P (joined (replicate n l))
  unfolding joined
  each_repeated zero h = none
  each_repeated (suc n) h = each_append h (each_repeated n h)

  pub each_joined : {Y : Type 0} (parts : Y → List X) → ((y : Y) → Each P (parts y)) → (l : List Y)
      → Each P (joined (map parts l))
  unfolding joined
  each_joined parts h [] = none
  each_joined parts h (y ∷ l) = each_append (h y) (each_joined parts h l)

  pub each_so : {Q : X → Type 0} {l : List X} → Each P l → ((x : X) → P x → Q x) → Each Q l
  each_so none h = none
  each_so (more p e) h = more (h _ p) (each_so e h)

  pub each_nth : {l : List X} {n : ℕ} {x : X} → Each P l → Nth l n x → P x
  each_nth none h = elim h [ ]
  each_nth (more p e) here = p
  each_nth (more p e) (there h) = each_nth e h

-- two functions that agree on every member
pub each_map : {X Y : Type 0} {g h : X → Y} {l : List X} → Each (λ x. g x ≡ h x) l → map g l ≡ map h l
each_map none = refl
each_map (more p e) = rw (p, each_map e)
