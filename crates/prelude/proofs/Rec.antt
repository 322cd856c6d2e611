-- Laws of the recursion over rows.
use mathlib.Core.Path.{◌≡◌, refl, sym, ap, subst, subst₂, fun_ext}
use mathlib.Core.Bool.{Bool, true, false}
use Prim.Native.Nat.{ℕ, zero, suc, ◌<◌, ◌≤◌}
use native.Mathlib.Omega.{arith}
use lib.Dec.{ltb}
use borrow.Author.Tests.{ltb-true, lt-ltb, le-ltb}
use Rattle.prelude.specs.Choice.{choose}
use Rattle.prelude.specs.Rec.{below, turns, rec}

module _ {X : Type 0} (none : X) where
  pub below_low : (r : ℕ) (f : ℕ → X) (k : ℕ) → k < r → below none r f k ≡ f k
  unfolding below choose
  below_low r f k h = rw (lt-ltb k r h)

  pub below_high : (r : ℕ) (f : ℕ → X) (k : ℕ) → r ≤ k → below none r f k ≡ none
  unfolding below choose
  below_high r f k h = rw (le-ltb k r h)

  below_agree : (r : ℕ) (f g : ℕ → X) → ((k : ℕ) → k < r → f k ≡ g k) → (k : ℕ) → below none r f k ≡ below none r g k
  unfolding below choose
  below_agree r f g h k = go (ltb k r) refl
    where
      go : (t : Bool) → ltb k r ≡ t → choose (ltb k r) (f k) none ≡ choose (ltb k r) (g k) none
      go true e = rw e (h k (ltb-true k r e))
      go false e = rw e

agree : {X : Type 0} (none : X) (step : (ℕ → X) → ℕ → X) (n m r : ℕ) → r < n → r < m → turns none step n r ≡ turns none step m r
unfolding turns
agree none step zero m r p q = absurd (omega arith)
agree none step (suc n) zero r p q = absurd (omega arith)
agree none step (suc n) (suc m) r p q =
    ap (λ f. step f r)
    (fun_ext (below_agree none r (turns none step n) (turns none step m) (λ k l. agree none step n m k (omega arith) (omega arith))))

-- the recursion's equation: turns do not show
pub rec_eq : {X : Type 0} (none : X) (step : (ℕ → X) → ℕ → X) (r : ℕ) → rec none step r ≡ step (below none r (rec none step)) r
unfolding rec turns
rec_eq none step r =
    ap (λ f. step f r)
    (fun_ext (below_agree none r (turns none step r) (rec none step) (λ k l. agree none step r (suc k) k l (omega arith))))

-- what a step shows of two recursions at a row, from the same of the rows below, holds at every row
turns_rel : {X Y : Type 0} (d : X) (e : Y) (f : (ℕ → X) → ℕ → X) (h : (ℕ → Y) → ℕ → Y) (R : ℕ → X → Y → Type 0)
    → ((r : ℕ) (g : ℕ → X) (g' : ℕ → Y) → ((k : ℕ) → k < r → R k (g k) (g' k))
    → ((k : ℕ) → r ≤ k → (g k ≡ d) × (g' k ≡ e)) → R r (f g r) (h g' r))
    → (n r : ℕ) → r < n → R r (turns d f n r) (turns e h n r)
unfolding turns
turns_rel d e f h R s zero r l = absurd (omega arith)
turns_rel d e f h R s (suc n) r l =
    s r (below d r (turns d f n)) (below e r (turns e h n))
    (λ k b. subst₂ (R k)
    (sym (below_low d r (turns d f n) k b))
    (sym (below_low e r (turns e h n) k b))
    (turns_rel d e f h R s n k (omega arith)))
    (λ k b. (below_high d r (turns d f n) k b, below_high e r (turns e h n) k b))

pub rec_rel : {X Y : Type 0} (d : X) (e : Y) (f : (ℕ → X) → ℕ → X) (h : (ℕ → Y) → ℕ → Y) (R : ℕ → X → Y → Type 0)
    → ((r : ℕ) (g : ℕ → X) (g' : ℕ → Y) → ((k : ℕ) → k < r → R k (g k) (g' k))
    → ((k : ℕ) → r ≤ k → (g k ≡ d) × (g' k ≡ e)) → R r (f g r) (h g' r))
    → (r : ℕ) → R r (rec d f r) (rec e h r)
unfolding rec
rec_rel d e f h R s r = turns_rel d e f h R s (suc r) r (omega arith)

-- the same of one recursion
pub rec_ind : {X : Type 0} (none : X) (step : (ℕ → X) → ℕ → X) (P : ℕ → X → Type 0)
    → ((r : ℕ) (g : ℕ → X) → ((k : ℕ) → k < r → P k (g k)) → ((k : ℕ) → r ≤ k → g k ≡ none) → P r (step g r))
    → (r : ℕ) → P r (rec none step r)
rec_ind none step P s r =
    rec_rel none none step step (λ k x y. P k x) (λ k g g' low high. s k g low (λ j h. (high j h).0)) r
