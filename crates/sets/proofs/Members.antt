-- "SET has bit i for element i": the elements of a range, a complement and a difference. Those of a union, an
-- intersection and a symmetric difference are laws of bits (prelude's Bits).
use mathlib.Core.Path.{◌≡◌, refl, sym, ap, ◌∙◌}
use mathlib.Core.Bool.{Bool, true, false, not, ◌&&◌, beq}
use Prim.Native.Nat.{ℕ, suc, ◌+◌, ◌-◌, ◌*◌, ◌/◌, ◌%◌, ◌^◌, ◌<◌, ◌≤◌}
use native.Mathlib.Omega.{arith}
use native.Mathlib.Nat.{mod-eq_of_lt, zero-div, div-eq_of_lt, div-eq_of_lt-le, div-eq_of_eq-mul_left}
use native.Mathlib.Nat.{mul-add-mod_self_left, mul-mod_right, pow-succ', add-mul, suc-mul}
use native.Mathlib.Numerals.{add-one}
use borrow.Author.Tests.{ltb-true, ltb-false}
use lib.Pow.{pow_pos, pow_mono, pow-add}
use lib.Bits.{bit_and, bit_xor, and_mask, xor_add_and}
use lib.Dec.{leb, ltb, eqb}
use Rattle.prelude.specs.Bits.{bit_of}
use Rattle.prelude.specs.Choice.{choose}
use Rattle.prelude.proofs.Bits.{bit_and_lem, bit_xor_lem}
use Rattle.sets.specs.Sets.{elements_of, complement_of}
use Rattle.values.proofs.Numbers.{inside, under, over}

-- ---- range

-- an odd and an even multiple of 2 ^ i, by the bit
module _ (i u : ℕ) where
  odd : (n : ℕ) → 2 * (u * 2 ^ i) + 2 ^ i ≤ n → n < 2 * (u * 2 ^ i) + 2 * 2 ^ i → n / 2 ^ i % 2 ≡ 1
  odd n h k =
      ap (λ m. m % 2) (div-eq_of_lt-le {k = 2 * u + 1} (2 ^ i) (omega arith) (omega arith))
      ∙ mul-add-mod_self_left 2 u 1

  even : (n : ℕ) → n ≡ 2 * (u * 2 ^ i) → n / 2 ^ i % 2 ≡ 0
  even n e = ap (λ m. m % 2) (div-eq_of_eq-mul_left (pow_pos i) (omega arith)) ∙ mul-mod_right 2 u

split : (i j : ℕ) → i ≤ j → 2 ^ j ≡ 2 ^ (j - i) * 2 ^ i
split i j h = let e : j ≡ j - i + i = omega arith in ap (λ n. 2 ^ n) e ∙ pow-add 2 (j - i) i

module _ (a b i : ℕ) (h : a ≤ b) where
  -- below a
  bit_low : i < a → (2 ^ (b + 1) - 2 ^ a) / 2 ^ i % 2 ≡ 0
  bit_low j =
      let p = 2 ^ i in
      let v = 2 ^ (b - i) in
      let u = 2 ^ (a - 1 - i) in
      even i (v - u) (2 ^ (b + 1) - 2 ^ a)
      (let l : u ≤ v = pow_mono (omega arith) in
      let e : 2 ^ (b + 1) ≡ 2 * 2 ^ b = ap (λ n. 2 ^ n) (add-one b) ∙ pow-succ' 2 b in
      let k : a ≡ suc (a - 1) = omega arith in
      let f : 2 ^ a ≡ 2 * 2 ^ (a - 1) = ap (λ n. 2 ^ n) k ∙ pow-succ' 2 (a - 1) in
      let g : (v - u) * p + u * p ≡ v * p = sym (add-mul (v - u) u p) ∙ ap (λ n. n * p) (omega arith) in
      omega (arith, split i b (omega arith), split i (a - 1) (omega arith)))

  -- from a to b
  bit_in : a ≤ i → i ≤ b → (2 ^ (b + 1) - 2 ^ a) / 2 ^ i % 2 ≡ 1
  bit_in k j =
      let p = 2 ^ i in
      let u = 2 ^ (b - i) - 1 in
      let e : 2 ^ (b + 1) ≡ 2 * 2 ^ b = ap (λ n. 2 ^ n) (add-one b) ∙ pow-succ' 2 b in
      let n : 2 ^ (b - i) ≡ suc u = let z = pow_pos (b - i) in omega arith in
      let f : 2 ^ b ≡ u * p + p = split i b j ∙ ap (λ n. n * p) n ∙ suc-mul u p in
      let l : 2 ^ a ≤ p = pow_mono k in
      let z = pow_pos a in
      odd i u (2 ^ (b + 1) - 2 ^ a) (omega arith) (omega arith)

  -- above b
  bit_high : b < i → (2 ^ (b + 1) - 2 ^ a) / 2 ^ i % 2 ≡ 0
  bit_high k =
      let l : 2 ^ (b + 1) ≤ 2 ^ i = pow_mono (omega arith) in
      let z = pow_pos a in
      let y = pow_pos (b + 1) in
      ap (λ n. n % 2) (div-eq_of_lt (omega arith))

-- the elements of a..b are the numbers from a to b
pub member_elements : (i a b : ℕ) → bit_of (elements_of a b) i ≡ (leb a i && leb i b)
unfolding bit_of elements_of choose
member_elements i a b = go (ltb b a) (ltb i a) (ltb b i) refl refl refl
  where
    go : (r s t : Bool) → ltb b a ≡ r → ltb i a ≡ s → ltb b i ≡ t
        → eqb (choose r 0 (2 ^ (b + 1) - 2 ^ a) / 2 ^ i % 2) 1 ≡ (leb a i && leb i b)
    go true true t p q e = rw (zero-div (2 ^ i), under a b i (ltb-true i a q))
    go true false t p q e =
        rw (zero-div (2 ^ i), over a b i (let k = ltb-true b a p in let l = ltb-false i a q in omega arith))
    go false true t p q e =
        rw (bit_low a b i (ltb-false b a p) (ltb-true i a q), under a b i (ltb-true i a q))
    go false false true p q e =
        rw (bit_high a b i (ltb-false b a p) (ltb-true b i e), over a b i (ltb-true b i e))
    go false false false p q e =
        let k = ltb-false i a q in
        let l = ltb-false b i e in
        rw (bit_in a b i (ltb-false b a p) k l, inside a b i k (omega arith))

-- ---- complement and difference

complement_xor : (s : ℕ) → s < 4294967296 → complement_of s ≡ bit_xor s 4294967295
unfolding complement_of
complement_xor s h = omega (arith, xor_add_and s 4294967295, and_mask s 32, mod-eq_of_lt h)

all_members : (i : ℕ) → i < 32 → bit_of 4294967295 i ≡ true
unfolding elements_of choose
all_members i h = member_elements i 0 31 ∙ inside 0 31 i (omega arith) h

pub member_complement : (i s : ℕ) → i < 32 → s < 4294967296 → bit_of (complement_of s) i ≡ not (bit_of s i)
member_complement i s h k =
    ap (λ word. bit_of word i) (complement_xor s k) ∙ bit_xor_lem i s 4294967295
    ∙ ap (λ b. not (beq (bit_of s i) b)) (all_members i h) ∙ other (bit_of s i)
  where
    other : (b : Bool) → not (beq b true) ≡ not b
    other true = refl
    other false = refl

pub member_difference : (i s t : ℕ) → i < 32 → t < 4294967296
    → bit_of (bit_and s (complement_of t)) i ≡ (bit_of s i && not (bit_of t i))
member_difference i s t h k =
    bit_and_lem i s (complement_of t) ∙ ap (λ b. bit_of s i && b) (member_complement i t h k)
