-- Laws that the proofs of the functions cite: 64 bits from two halves, values of different kinds, a count.
use mathlib.Core.Path.{◌≡◌, refl, sym}
use mathlib.Core.Bool.{Bool, true, false}
use mathlib.Core.List.{List, [], ◌∷◌}
use Prim.Native.Nat.{ℕ, suc, ◌+◌, ◌-◌, ◌*◌, ◌<◌}
use native.Mathlib.Omega.{arith}
use native.Mathlib.Numerals.{add-one}
use lib.IntN.{ℤ, pos, negsuc, ◌+ℤ◌, ◌*ℤ◌}
use mir.Syntax.{w32, w64}
use mir.Val.{SFits}
use Rattle.values.specs.declared.Value.{Value}
use Rattle.values.specs.declared.Value.TheVariants as Vs
use Rattle.values.specs.contracts.ValuePartialEq.TheImpl.{eq-value}
use Rattle.values.specs.contracts.StopPartialEq.TheImpl.{eq-value as eq-stop}
use Rattle.std.specs.Result.{result_eq}
use Rattle.std.specs.Ordering.{int_eq, is_eq}
use Rattle.std.proofs.Common.{Less, Equal, Greater, cond}
use borrow.Author.Tests.{ltb-true, ltb-false, eq-eqb, ne_eqb}
use lib.Dec.{ltb, eqb}
use Rattle.values.specs.declared.Stop.TheVariants as St
use Rattle.integers.proofs.Division.{up_from}
use Rattle.operators.specs.Operators.{equal_z}
use Rattle.cases_values.specs.Cases.{same_value, same_as, cell_with, weight_at, counted}
use Rattle.std.specs.Prelude.{Ok, Err}
use Rattle.values.specs.Values.{Answer}

-- ---- 64 bits

pub upper_fits : (h : ℤ) → SFits w32 h → SFits w64 (h *ℤ pos 4294967296)
upper_fits (pos a) f = record { sfits = omega (arith, f.sfits) }
upper_fits (negsuc a) f =
    let e : suc a * 4294967296 ≡ suc (a * 4294967296 + 4294967295) = omega arith in
    rw e (record { sfits = omega (arith, f.sfits) })

pub wide_fits : (h : ℤ) (n : ℕ) → SFits w32 h → n < 4294967296 → SFits w64 ((h *ℤ pos 4294967296) +ℤ pos n)
wide_fits (pos a) n f k = record { sfits = omega (arith, f.sfits) }
wide_fits (negsuc a) n f k =
    rw (up_from (suc a * 4294967296) n (a * 4294967296 + (4294967295 - n)) (omega arith))
    (record { sfits = omega (arith, f.sfits) })

-- ---- what a case says

-- equality of INTEGERs, from whether one is less than the other
module _ (a b : ℕ) where
  compared : (s t : Bool) → (s ≡ true → a ≡ b → ⊥) → (t ≡ true → a ≡ b → ⊥) → (s ≡ false → t ≡ false → a ≡ b)
      → is_eq (cond s Less (cond t Greater Equal)) ≡ eqb a b
  compared true t f g h = sym (ne_eqb a b (f refl))
  compared false true f g h = sym (ne_eqb a b (g refl))
  compared false false f g h = sym (eq-eqb a b (h refl refl))

integer_same : (x y : ℤ) → int_eq x y ≡ equal_z x y
unfolding equal_z
integer_same (pos a) (pos b) =
    compared a b (ltb a b) (ltb b a) (λ e f. omega (arith, ltb-true a b e)) (λ e f. omega (arith, ltb-true b a e))
    (λ e f. omega (arith, ltb-false a b e, ltb-false b a f))
integer_same (pos a) (negsuc b) = refl
integer_same (negsuc a) (pos b) = refl
integer_same (negsuc a) (negsuc b) =
    compared a b (ltb b a) (ltb a b) (λ e f. omega (arith, ltb-true b a e)) (λ e f. omega (arith, ltb-true a b e))
    (λ e f. omega (arith, ltb-false b a e, ltb-false a b f))

-- the derived equality of values
value_same : (v w : Value) → eq-value.it v w ≡ same_value v w
unfolding same_value
value_same (Vs.Bool p) (Vs.Bool q) = refl
value_same (Vs.Bool p) (Vs.Int y) = refl
value_same (Vs.Bool p) (Vs.Set t) = refl
value_same (Vs.Int x) (Vs.Bool q) = refl
value_same (Vs.Int x) (Vs.Int y) = integer_same x y
value_same (Vs.Int x) (Vs.Set t) = refl
value_same (Vs.Set s) (Vs.Bool q) = refl
value_same (Vs.Set s) (Vs.Int y) = refl
value_same (Vs.Set s) (Vs.Set t) = refl

pub result_same : (v : Value) (x : Answer) → result_eq eq-value.it eq-stop.it (Ok v) x ≡ same_as v x
unfolding same_as
result_same v (Ok w) = value_same v w
result_same v (Err stop) = refl

pub no_integer : (s : List ℕ) (v : Value) → ((x : ℤ) → v ≡ Vs.Int x → ⊥) → cell_with s v ≡ Err St.Stuck
unfolding cell_with
no_integer s (Vs.Bool q) h = refl
no_integer s (Vs.Int y) h = absurd (h y refl)
no_integer s (Vs.Set u) h = refl

-- ---- one case more

pub counted_more : (cases : List ℕ) (what : ℕ) (good : Bool) (k : ℕ) {n w : ℕ}
    → n ≡ counted cases what good k → w ≡ weight_at cases what good k → n + w ≡ counted cases what good (k + 1)
unfolding counted
counted_more cases what good k p q = rw (add-one k, p, q)
