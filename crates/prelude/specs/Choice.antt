-- Choice by a test.
use Rattle.std.specs.Prelude.{Bool, true, false}

-- the first where the test holds, else the second
unfoldable pub choose : {X : Type 0} → Bool → X → X → X
choose true x y = x
choose false x y = y

infixr 30 ◌also◌
-- both tests hold, the second asked only where the first does
unfoldable pub ◌also◌ : Bool → Bool → Bool
true also b = b
false also b = false
