-- DIV and MOD are known by two sentences: "x = (x DIV y) × y + (x MOD y)", and the range of x MOD y. They hold for every
-- divisor but 0 (`div_mod`), and no other two numbers meet them (`divided_once`).
use mathlib.Core.Path.{◌≡◌, refl, sym, ap, ◌∙◌}
use mathlib.Core.Bool.{true, false}
use Prim.Native.Nat.{ℕ, zero, suc, ◌+◌, ◌-◌, ◌*◌, ◌/◌, ◌%◌, ◌<◌}
use native.Mathlib.Omega.{arith}
use native.Mathlib.Nat.{mod-lt, div-add-mod', suc-mul, div-eq_of_lt-le}
use borrow.Author.Tests.{ltb-true, leb-true, eqb-false, lt-ltb, le-leb}
use lib.Dec.{eqb}
use lib.IntN.{ℤ, pos, negsuc, neg_ℤ, nat_abs, ◌+ℤ◌, ◌-ℤ◌, ◌*ℤ◌}
use lib.IntN.{neg_ℤ-neg_ℤ, neg_ℤ-+ℤ, +ℤ_comm, +ℤ-neg_ℤ_cancel, *ℤ-zero, *ℤ-negsuc}
use Rattle.prelude.proofs.Choice.{clash, also_true, also_yes}
use Rattle.integers.specs.Integers.{quotient_of, div_of, mod_of, is_remainder, Divided}

-- ---- by a magnitude

-- what is left of a number by a magnitude
abbrev rest : ℤ → ℕ → ℕ
rest (pos a) d = a % d
rest (negsuc a) d = d - suc (a % d)

rest_below : (x : ℤ) (d : ℕ) → 0 < d → rest x d < d
rest_below (pos a) d h = mod-lt a h
rest_below (negsuc a) d h = let r = mod-lt a h in omega arith

-- a negative number, and a natural one that does not reach 0 from there
pub up_from : (m k a : ℕ) → k + suc a ≡ m → neg_ℤ (pos m) +ℤ pos k ≡ negsuc a
up_from zero k a e = absurd (omega arith)
up_from (suc m) k a e = rw (lt-ltb k (suc m) (omega arith)) (ap negsuc (omega arith))

quotient_whole : (x : ℤ) (d : ℕ) → 0 < d → x ≡ (quotient_of x d *ℤ pos d) +ℤ pos (rest x d)
unfolding quotient_of
quotient_whole (pos a) d h = ap pos (sym (div-add-mod' a d))
quotient_whole (negsuc a) d h =
    let r = mod-lt a h in
    sym (up_from (suc (a / d) * d) (d - suc (a % d)) a (omega (arith, suc-mul (a / d) d, div-add-mod' a d)))

quotient_once : (q : ℤ) (d r : ℕ) → r < d → q ≡ quotient_of ((q *ℤ pos d) +ℤ pos r) d
unfolding quotient_of
quotient_once (pos k) d r h = ap pos (sym (div-eq_of_lt-le {k = k} d (omega arith) (omega (arith, suc-mul k d))))
quotient_once (negsuc k) d r h =
    let a = k * d + (d - suc r) in
    let e : a / d ≡ k = div-eq_of_lt-le {k = k} d (omega arith) (omega (arith, suc-mul k d)) in
    rw (up_from (suc k * d) r a (omega (arith, suc-mul k d))) (ap negsuc (sym e))

-- ---- with all signs turned but the quotient's

product_turned : (q y : ℤ) → neg_ℤ (q *ℤ y) ≡ q *ℤ neg_ℤ y
product_turned q (pos zero) = ap neg_ℤ (*ℤ-zero q) ∙ sym (*ℤ-zero q)
product_turned q (pos (suc n)) = sym (*ℤ-negsuc q n)
product_turned q (negsuc n) = ap neg_ℤ (*ℤ-negsuc q n) ∙ neg_ℤ-neg_ℤ (q *ℤ pos (suc n))

remains_turned : (y r : ℤ) → is_remainder y r ≡ true → is_remainder (neg_ℤ y) (neg_ℤ r) ≡ true
unfolding is_remainder
remains_turned (pos n) (negsuc k) h = clash (sym (also_true _ _ h).0)
remains_turned (pos zero) (pos k) h = absurd (let l = ltb-true k 0 (also_true _ _ h).1 in omega arith)
remains_turned (pos (suc n)) (pos zero) h = also_yes refl (le-leb 0 0 (omega arith))
remains_turned (pos (suc n)) (pos (suc k)) h =
    also_yes (lt-ltb k n (let l = ltb-true (suc k) (suc n) (also_true _ _ h).1 in omega arith)) refl
remains_turned (negsuc n) (pos zero) h = also_yes (le-leb 0 0 (omega arith)) (lt-ltb 0 (suc n) (omega arith))
remains_turned (negsuc n) (pos (suc k)) h = absurd (let l = leb-true (suc k) 0 (also_true _ _ h).1 in omega arith)
remains_turned (negsuc n) (negsuc k) h =
    let l = ltb-true k n (also_true _ _ h).0 in
    also_yes (le-leb 0 (suc k) (omega arith)) (lt-ltb (suc k) (suc n) (omega arith))

turned : (x y q r : ℤ) → Divided x y q r → Divided (neg_ℤ x) (neg_ℤ y) q (neg_ℤ r)
turned x y q r h = record {
  whole = ap neg_ℤ h.whole ∙ neg_ℤ-+ℤ (q *ℤ y) r ∙ ap (λ z. z +ℤ neg_ℤ r) (product_turned q y);
  remains = remains_turned y r h.remains;
}

-- ---- by any divisor but 0

-- what the equation says of the remainder
mod_is : (x y q r : ℤ) → x ≡ (q *ℤ y) +ℤ r → x -ℤ (q *ℤ y) ≡ r
mod_is x y q r e = ap (λ z. z -ℤ (q *ℤ y)) (e ∙ +ℤ_comm (q *ℤ y) r) ∙ +ℤ-neg_ℤ_cancel r (q *ℤ y)

with_mod : (x y r : ℤ) → Divided x y (div_of x y) r → Divided x y (div_of x y) (mod_of x y)
unfolding mod_of
with_mod x y r h = rw (mod_is x y (div_of x y) r h.whole) h

by_rest : (x : ℤ) (d : ℕ) → 0 < d → Divided x (pos d) (quotient_of x d) (pos (rest x d))
unfolding is_remainder
by_rest x d h = record {
  whole = quotient_whole x d h;
  remains = also_yes (le-leb 0 (rest x d) (omega arith)) (lt-ltb (rest x d) d (rest_below x d h));
}

pub div_mod : (x y : ℤ) → eqb (nat_abs y) 0 ≡ false → Divided x y (div_of x y) (mod_of x y)
unfolding div_of
div_mod x (pos n) h = with_mod x (pos n) (pos (rest x n)) (by_rest x n (let k = eqb-false n 0 h in omega arith))
div_mod x (negsuc n) h =
    let turn = turned (neg_ℤ x) (pos (suc n)) _ _ (by_rest (neg_ℤ x) (suc n) (omega arith)) in
    with_mod x (negsuc n) (neg_ℤ (pos (rest (neg_ℤ x) (suc n)))) (rw (neg_ℤ-neg_ℤ x) at turn)

-- ---- nothing else meets the two

quotient_is : (x q r : ℤ) (d : ℕ) → Divided x (pos d) q r → q ≡ quotient_of x d
unfolding is_remainder
quotient_is x q (negsuc r) d h = clash (sym (also_true _ _ h.remains).0)
quotient_is x q (pos r) d h =
    rw h.whole (quotient_once q d r (ltb-true r d (also_true _ _ h.remains).1))

div_is : (x y q r : ℤ) → Divided x y q r → q ≡ div_of x y
unfolding div_of
div_is x (pos n) q r h = quotient_is x q r n h
div_is x (negsuc n) q r h = quotient_is (neg_ℤ x) q (neg_ℤ r) (suc n) (turned x (negsuc n) q r h)

pub divided_once : (x y q r : ℤ) → Divided x y q r → (q ≡ div_of x y) × (r ≡ mod_of x y)
unfolding mod_of
divided_once x y q r h =
    let e = div_is x y q r h in
    (e, sym (mod_is x y (div_of x y) r (rw e at h.whole)))
