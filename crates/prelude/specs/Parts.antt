-- Lists: the element at a place, a list that stands in another from a place on, lists joined.
use Rattle.std.specs.Prelude.{◌≡◌, List, [], ◌∷◌, ◌++◌, ℕ, zero, suc, ◌+◌, ◌≤◌, length, drop}

-- the lists one after the other
unfoldable pub joined : {X : Type 0} → List (List X) → List X
joined [] = []
joined (x ∷ xs) = x ++ joined xs

unfoldable pub sum : List ℕ → ℕ
sum [] = 0
sum (n ∷ ns) = n + sum ns

-- the element of a list at place n
pub data Nth {X : Type 0} : List X → ℕ → X → Type 0 where
  here : {x : X} {l : List X} → Nth (x ∷ l) zero x
  there : {x y : X} {l : List X} {n : ℕ} → Nth l n x → Nth (y ∷ l) (suc n) x

-- `xs` stands in `l` from place `at` on
pub record Part {X : Type 0} (l : List X) (at : ℕ) (xs : List X) : Type 0 where
  pub rest : List X
  pub seen : drop at l ≡ xs ++ rest
  pub within : at ≤ length l
