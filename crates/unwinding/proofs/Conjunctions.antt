-- The value of `a && b && ..` as the tests of a definition.
use mathlib.Core.Path.{◌≡◌, refl, sym, ◌∙◌}
use mathlib.Core.Bool.{Bool, true, false}
use Rattle.prelude.specs.Choice.{◌also◌}
use Rattle.prelude.proofs.Choice.{also_left, also_pass}

-- of two: by the second where the first holds, and else by the first
pub both_yes : {a v : Bool} (b : Bool) → a ≡ true → v ≡ b → v ≡ (a also b)
both_yes b holds is = is ∙ sym (also_pass b holds)

pub both_no : {a v : Bool} (b : Bool) → a ≡ false → v ≡ a → v ≡ (a also b)
both_no b fails is = is ∙ fails ∙ sym (also_left b fails)

-- of more: each is of those before it and one
pub of_three : (a b c : Bool) {u v : Bool} → u ≡ (a also b) → v ≡ (u also c) → v ≡ (a also b also c)
unfolding ◌also◌
of_three true b c p q = q ∙ rw p refl
of_three false b c p q = q ∙ rw p refl

pub of_four : (a b c d : Bool) {u v w : Bool} → u ≡ (a also b) → v ≡ (u also c) → w ≡ (v also d)
    → w ≡ (a also b also c also d)
unfolding ◌also◌
of_four true b c d p q r = of_three b c d (q ∙ rw p refl) r
of_four false b c d p q r = r ∙ rw (q, p) refl

pub of_five : (a b c d e : Bool) {u v w x : Bool} → u ≡ (a also b) → v ≡ (u also c) → w ≡ (v also d) → x ≡ (w also e)
    → x ≡ (a also b also c also d also e)
unfolding ◌also◌
of_five true b c d e p q r s = of_four b c d e (q ∙ rw p refl) r s
of_five false b c d e p q r s = s ∙ rw (r, q, p) refl

-- of three and one more
pub three_more : (a b c d : Bool) {v w : Bool} → v ≡ (a also b also c) → w ≡ (v also d)
    → w ≡ (a also b also c also d)
unfolding ◌also◌
three_more true true c d p q = q ∙ rw p refl
three_more true false c d p q = q ∙ rw p refl
three_more false b c d p q = q ∙ rw p refl
