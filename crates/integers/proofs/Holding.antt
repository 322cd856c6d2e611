-- How far an operation on two INTEGERs can take a number.
use mathlib.Core.Path.{◌≡◌, refl, ◌∙◌}
use mathlib.Core.Bool.{Bool, true, false}
use Prim.Native.Nat.{ℕ, zero, suc, ◌+◌, ◌*◌, ◌<◌, ◌≤◌}
use native.Mathlib.Omega.{arith}
use native.Mathlib.Nat.{le_trans, mul-le-mul_left}
use lib.Dec.{ltb}
use lib.IntN.{ℤ, pos, negsuc, neg_ℤ, sub_ℕ, ◌+ℤ◌, ◌-ℤ◌, ◌*ℤ◌, +ℤ_idl}
use lib.Signed.{mag}
use mir.Syntax.{w32, w64}
use mir.Val.{SFits, to_z, of_z}
use Rattle.values.proofs.Numbers.{plain64, wide}

mag_sub : (a b : ℕ) → mag (sub_ℕ a b) ≤ a + b
mag_sub a b = go (ltb a b) refl
  where
    go : (t : Bool) → ltb a b ≡ t → mag (sub_ℕ a b) ≤ a + b
    go true e = rw e (omega arith)
    go false e = rw e (omega arith)

mag_add : (a b : ℤ) → mag (a +ℤ b) ≤ mag a + mag b + 1
mag_add (pos a) (pos b) = omega arith
mag_add (pos a) (negsuc b) = omega (arith, mag_sub a (suc b))
mag_add (negsuc a) (pos b) = omega (arith, mag_sub b (suc a))
mag_add (negsuc a) (negsuc b) = omega arith

pub mag_neg : (b : ℤ) → mag (neg_ℤ b) ≤ mag b + 1
mag_neg (pos zero) = omega arith
mag_neg (pos (suc n)) = omega arith
mag_neg (negsuc n) = omega arith

mag_prod : (a b : ℕ) → a ≤ 2147483649 → b ≤ 2147483648 → a * b ≤ 4611686020574871552
mag_prod a b p q = le_trans (mul-le-mul_left a q) (omega arith)

pub mag_neg_pos : (n : ℕ) → mag (neg_ℤ (pos n)) ≤ n
mag_neg_pos zero = omega arith
mag_neg_pos (suc n) = omega arith

-- a quotient may reach 2147483648
mag_mul : (a b : ℤ) → mag a ≤ 2147483648 → mag b < 2147483648 → mag (a *ℤ b) ≤ 4611686020574871552
mag_mul (pos a) (pos b) p q = mag_prod a b (omega arith) (omega arith)
mag_mul (pos a) (negsuc b) p q =
    le_trans (mag_neg_pos (a * suc b)) (mag_prod a (suc b) (omega arith) (omega arith))
mag_mul (negsuc a) (pos b) p q =
    le_trans (mag_neg_pos (suc a * b)) (mag_prod (suc a) b (omega arith) (omega arith))
mag_mul (negsuc a) (negsuc b) p q = mag_prod (suc a) (suc b) (omega arith) (omega arith)

-- an operation on two INTEGERs that the wider type holds, of the operands as the machine reads them
pub record Holds (f : ℤ → ℤ → ℤ) (a b : ℤ) : Type 0 where
  pub fits : SFits w64 (f (to_z w64 (of_z w64 (to_z w32 (of_z w32 a)))) (to_z w64 (of_z w64 (to_z w32 (of_z w32 b)))))
  pub same : to_z w64 (of_z w64 (f (to_z w64 (of_z w64 (to_z w32 (of_z w32 a)))) (to_z w64 (of_z w64 (to_z w32 (of_z w32 b))))))
      ≡ f a b

module _ (a b : ℤ) (p : SFits w32 a) (q : SFits w32 b) where
  holds : (f : ℤ → ℤ → ℤ) → SFits w64 (f a b) → Holds f a b
  holds f h = record {
    fits = rw (wide a p, wide b q) h;
    same = rw (wide a p, wide b q) (plain64 (f a b) h);
  }

  pub sum_holds : Holds ◌+ℤ◌ a b
  sum_holds = holds ◌+ℤ◌ (record { sfits = omega (arith, mag_add a b, p.sfits, q.sfits) })

  pub difference_holds : Holds ◌-ℤ◌ a b
  difference_holds = holds ◌-ℤ◌ (record { sfits = omega (arith, mag_add a (neg_ℤ b), mag_neg b, p.sfits, q.sfits) })

  pub product_holds : Holds ◌*ℤ◌ a b
  product_holds = holds ◌*ℤ◌ (record { sfits = omega (arith, mag_mul a b (omega (arith, p.sfits)) q.sfits) })

-- a quotient by its divisor
pub multiple_fits : (q y : ℤ) → mag q ≤ 2147483648 → SFits w32 y → SFits w64 (q *ℤ y)
multiple_fits q y p f = record { sfits = omega (arith, mag_mul q y p f.sfits) }

-- -z, of a number as the machine reads it
pub record Turns (z : ℤ) : Type 0 where
  pub fits : SFits w64 (pos 0 -ℤ to_z w64 (of_z w64 (to_z w32 (of_z w32 z))))
  pub same : to_z w64 (of_z w64 (pos 0 -ℤ to_z w64 (of_z w64 (to_z w32 (of_z w32 z))))) ≡ neg_ℤ z

pub turns : (z : ℤ) → SFits w32 z → Turns z
turns z f =
    let h = difference_holds (pos 0) z (record { sfits = omega arith }) f in
    record { fits = h.fits; same = h.same ∙ +ℤ_idl (neg_ℤ z) }
