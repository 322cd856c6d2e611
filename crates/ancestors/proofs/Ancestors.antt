-- Bit i of a type row's word is whether the row extends row low + i.
use mathlib.Core.Path.{◌≡◌, refl, sym, ◌∙◌, ap, ap₂}
use mathlib.Core.Bool.{false, ◌||◌}
use mathlib.Core.List.{List}
use mathlib.Core.Logic.{◌⊎◌, inl, inr}
use Prim.Native.Nat.{ℕ, ◌+◌, ◌-◌, ◌^◌, ◌≤◌, ◌<◌}
use native.Mathlib.Omega.{arith}
use native.Mathlib.Decide.{dec_lt}
use borrow.Author.Tests.{lt-ltb, le-ltb, eq-eqb, ne_eqb}
use lib.Bits.{bit_or}
use lib.Dec.{eqb}
use Rattle.prelude.specs.Bits.{bit_of}
use Rattle.prelude.specs.Choice.{choose}
use Rattle.prelude.specs.Rec.{rec, below}
use Rattle.prelude.proofs.Bits.{bit_none, bit_or_lem, bit_single}
use Rattle.prelude.proofs.Choice.{or_choose}
use Rattle.prelude.proofs.Rec.{rec_eq, rec_rel, below_low, below_high}
use Rattle.shapes.specs.Forms.{form, base_of, of_base}
use Rattle.shapes.proofs.Rows.{by_bases}
use Rattle.shapes.proofs.Layouts.{decide}
use Rattle.relations.specs.Extends.{extends_to, extends}
use Rattle.ancestors.specs.Ancestors.{own_bit, word_of}

-- ---- the own bit

module _ (low r : ℕ) where
  pub own_below : r < low → own_bit low r ≡ 0
  unfolding own_bit choose
  own_below h = rw (lt-ltb r low h)

  module _ (h : low ≤ r) where
    pub own_past : 31 < r - low → own_bit low r ≡ 0
    unfolding own_bit choose
    own_past k = rw (le-ltb r low h, lt-ltb 31 (r - low) k)

    pub own_one : r - low ≤ 31 → own_bit low r ≡ 2 ^ (r - low)
    unfolding own_bit choose
    own_one k = rw (le-ltb r low h, le-ltb 31 (r - low) k)

-- by where the row stands
own_has : (P : ℕ → Type 0) (low r : ℕ) → (r < low → P 0) → (31 < r - low → P 0)
    → (low ≤ r → r - low ≤ 31 → P (2 ^ (r - low))) → P (own_bit low r)
own_has P low r under over one = go (dec_lt r low) (dec_lt 31 (r - low))
  where
    go : Dec (r < low) → Dec (31 < r - low) → P (own_bit low r)
    go (yes h) d = rw (own_below low r h) (under h)
    go (no h) (yes k) = rw (own_past low r (omega arith) k) (over k)
    go (no h) (no k) = rw (own_one low r (omega arith) (omega arith)) (one (omega arith) (omega arith))

one_bit : (i low r : ℕ) → low ≤ r → bit_of (2 ^ (r - low)) i ≡ eqb r (low + i)
one_bit i low r above = bit_single (r - low) i ∙ go (decide r (low + i))
  where
    go : (r ≡ low + i) ⊎ (r ≡ low + i → ⊥) → eqb (r - low) i ≡ eqb r (low + i)
    go (inl e) = eq-eqb (r - low) i (omega arith) ∙ sym (eq-eqb r (low + i) e)
    go (inr e) = ne_eqb (r - low) i (omega arith) ∙ sym (ne_eqb r (low + i) e)

-- it is the row's
own_bit_lem : (i low r : ℕ) → i < 32 → bit_of (own_bit low r) i ≡ eqb r (low + i)
own_bit_lem i low r h =
    own_has (λ word. bit_of word i ≡ eqb r (low + i)) low r
    (λ k. bit_none i ∙ sym (ne_eqb r (low + i) (omega arith)))
    (λ k. bit_none i ∙ sym (ne_eqb r (low + i) (omega arith)))
    (λ l k. one_bit i low r l)

-- ---- the word

-- two results that agree on the rows below r, and on none, agree on what a base gives
base_rel : {X Y : Type 0} {d : X} {e : Y} (R : X → Y → Type 0) (r : ℕ) (g : ℕ → X) (g' : ℕ → Y) → R d e
    → ((k : ℕ) → k < r → R (g k) (g' k)) → ((k : ℕ) → r ≤ k → (g k ≡ d) × (g' k ≡ e))
    → (a : ℕ) → R (of_base d g a) (of_base e g' a)
base_rel R r g g' none low high a = by_bases R a none (λ b is. go b (dec_lt b r))
  where
    go : (b : ℕ) → Dec (b < r) → R (g b) (g' b)
    go b (yes l) = low b l
    go b (no l) = let (p, q) = high b (omega arith) in rw (p, q) none

module _ (t : List ℕ) (low : ℕ) where
  abbrev step : (ℕ → ℕ) → ℕ → ℕ
  step word r = bit_or (of_base 0 word (base_of (form t r))) (own_bit low r)

  -- a row's word, from those of lower rows
  pub word_next : (r : ℕ) (g : ℕ → ℕ) → ((k : ℕ) → k < r → g k ≡ word_of t low k)
      → bit_or (of_base 0 (below 0 r g) (base_of (form t r))) (own_bit low r) ≡ word_of t low r
  unfolding word_of
  word_next r g h =
      let word = rec 0 step in
      ap (λ x. bit_or x (own_bit low r))
      (base_rel ◌≡◌ r (below 0 r g) (below 0 r word) refl
      (λ k l. below_low 0 r g k l ∙ h k l ∙ sym (below_low 0 r word k l))
      (λ k l. (below_high 0 r g k l, below_high 0 r word k l)) (base_of (form t r)))
      ∙ sym (rec_eq 0 step r)

  -- it says what the row extends
  pub word_bit : (i r : ℕ) → i < 32 → bit_of (word_of t low r) i ≡ extends t r (low + i)
  unfolding word_of extends_to
  word_bit i r h =
      rec_rel 0 false step _ (λ k word extends. bit_of word i ≡ extends)
      (λ r g g' lower other.
      let base = base_of (form t r) in
      bit_or_lem i (of_base 0 g base) (own_bit low r)
      ∙ ap₂ ◌||◌ (base_rel (λ word extends. bit_of word i ≡ extends) r g g' (bit_none i) lower other base)
      (own_bit_lem i low r h)
      ∙ or_choose (of_base false g' base) (eqb r (low + i)))
      r
