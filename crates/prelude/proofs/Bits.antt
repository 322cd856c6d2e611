-- Every bit of words that are put together.
use mathlib.Core.Path.{◌≡◌, refl, sym, ap, ◌∙◌}
use mathlib.Core.Bool.{Bool, true, false, not, ◌&&◌, ◌||◌, beq}
use Prim.Native.Nat.{ℕ, zero, suc, ◌+◌, ◌-◌, ◌*◌, ◌/◌, ◌%◌, ◌^◌, ◌<◌}
use native.Mathlib.Omega.{arith}
use native.Mathlib.Decide.{dec_lt}
use native.Mathlib.Nat.{mod-lt, zero-div, div-eq_of_lt, mul-mod_right, pow-succ'}
use borrow.Author.Tests.{eq-eqb, ne_eqb}
use lib.Pow.{pow-lt, pow-add, shl-shr}
use lib.Bits.{bit_and, bit_or, bit_xor, and_shr, or_shr, xor_shr, and_mod, or_mod, xor_mod}
use lib.Dec.{eqb}
use Rattle.prelude.specs.Bits.{bit_of}

-- ---- no bit

pub bit_none : (i : ℕ) → bit_of 0 i ≡ false
unfolding bit_of
bit_none i = rw (zero-div (2 ^ i))

-- ---- two words, bit by bit

-- f takes two words bit by bit, as g takes two bits
module _ (f : ℕ → ℕ → ℕ) (g : Bool → Bool → Bool)
    (shr : (a b k : ℕ) → f a b / 2 ^ k ≡ f (a / 2 ^ k) (b / 2 ^ k))
    (low : (a b k : ℕ) → f a b % 2 ^ k ≡ f (a % 2 ^ k) (b % 2 ^ k))
    (ff : eqb (f 0 0) 1 ≡ g false false) (ft : eqb (f 0 1) 1 ≡ g false true)
    (tf : eqb (f 1 0) 1 ≡ g true false) (tt : eqb (f 1 1) 1 ≡ g true true) where
  of_two : (a b : ℕ) → a < 2 → b < 2 → eqb (f a b) 1 ≡ g (eqb a 1) (eqb b 1)
  of_two zero zero p q = ff
  of_two zero (suc zero) p q = ft
  of_two (suc zero) zero p q = tf
  of_two (suc zero) (suc zero) p q = tt
  of_two (suc (suc a)) b p q = absurd (omega arith)
  of_two zero (suc (suc b)) p q = absurd (omega arith)
  of_two (suc zero) (suc (suc b)) p q = absurd (omega arith)

  bit_by : (i a b : ℕ) → bit_of (f a b) i ≡ g (bit_of a i) (bit_of b i)
  unfolding bit_of
  bit_by i a b =
      ap (λ n. eqb n 1) (ap (λ n. n % 2) (shr a b i) ∙ low (a / 2 ^ i) (b / 2 ^ i) 1)
      ∙ of_two (a / 2 ^ i % 2) (b / 2 ^ i % 2) (mod-lt (a / 2 ^ i) (omega arith)) (mod-lt (b / 2 ^ i) (omega arith))

pub bit_or_lem : (i a b : ℕ) → bit_of (bit_or a b) i ≡ (bit_of a i || bit_of b i)
bit_or_lem = bit_by bit_or ◌||◌ or_shr or_mod refl refl refl refl

pub bit_and_lem : (i a b : ℕ) → bit_of (bit_and a b) i ≡ (bit_of a i && bit_of b i)
bit_and_lem = bit_by bit_and ◌&&◌ and_shr and_mod refl refl refl refl

pub bit_xor_lem : (i a b : ℕ) → bit_of (bit_xor a b) i ≡ not (beq (bit_of a i) (bit_of b i))
bit_xor_lem = bit_by bit_xor (λ p q. not (beq p q)) xor_shr xor_mod refl refl refl refl

-- ---- a word of one bit

single_above : (k i : ℕ) → i < k → 2 ^ k / 2 ^ i % 2 ≡ 0
single_above k i h =
    let rest = k - i - 1 in
    let parted : k ≡ suc rest + i = omega arith in
    ap (λ n. n / 2 ^ i % 2) (ap (λ n. 2 ^ n) parted ∙ pow-add 2 (suc rest) i)
    ∙ ap (λ n. n % 2) (shl-shr (2 ^ suc rest) i ∙ pow-succ' 2 rest) ∙ mul-mod_right 2 (2 ^ rest)

single_here : (i : ℕ) → 2 ^ i / 2 ^ i % 2 ≡ 1
single_here i =
    let one : 2 ^ i ≡ 1 * 2 ^ i = omega arith in
    ap (λ n. n / 2 ^ i % 2) one ∙ ap (λ n. n % 2) (shl-shr 1 i)

pub bit_single : (k i : ℕ) → bit_of (2 ^ k) i ≡ eqb k i
unfolding bit_of
bit_single k i = go (dec_lt k i) (dec_lt i k)
  where
    go : Dec (k < i) → Dec (i < k) → eqb (2 ^ k / 2 ^ i % 2) 1 ≡ eqb k i
    go (yes l) d = ap (λ n. eqb (n % 2) 1) (div-eq_of_lt (pow-lt l)) ∙ sym (ne_eqb k i (omega arith))
    go (no l) (yes m) = ap (λ n. eqb n 1) (single_above k i m) ∙ sym (ne_eqb k i (omega arith))
    go (no l) (no m) =
        let same : k ≡ i = omega arith in
        rw same (ap (λ n. eqb n 1) (single_here i) ∙ sym (eq-eqb i i refl))
