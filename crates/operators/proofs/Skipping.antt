-- "Operands go left to right": & and OR "skip the right one when the left decides", which changes nothing and keeps
-- kinds and ranges; elsewhere a trap of the right one comes before the operator's own.
use Rattle.std.specs.Prelude.{Some, None, Ok, Err}
use mathlib.Core.Path.{◌≡◌, refl, sym}
use mathlib.Core.Bool.{Bool, true, false}
use mathlib.Core.Logic.{inl, inr}
use Prim.Native.Nat.{ℕ}
use native.Mathlib.Omega.{arith}
use borrow.Author.Tests.{eqb-true, not-true}
use lib.Dec.{eqb}
use Rattle.prelude.specs.Choice.{choose}
use Rattle.prelude.proofs.Choice.{clash, choose_cases}
use Rattle.values.specs.Values.{BOOLEAN, kind_of, InRange, as_boolean, bind, Gives, Answer}
use Rattle.operators.specs.Operators.{booleans_of, dyadic_of, decides, applied_to}
use Rattle.kinds.specs.Kinds.{booleans_kind, dyadic_kind}
use Rattle.values.specs.Values.Gives.{value, trapped}
use Rattle.values.specs.declared.Value.{Value}
use Rattle.values.specs.declared.Value.TheVariants as Vs
use Rattle.values.specs.declared.Trap.{Trap}
use Rattle.values.specs.declared.Stop.TheVariants as St
use Rattle.values.proofs.Giving.{gives_one}
use Rattle.operators.proofs.Typed.{dyadic_typed}
use Rattle.operators.proofs.Ranges.{dyadic_range}
use Rattle.values.proofs.Cells.{no_value}

no_kind : {X : Type 0} {k : ℕ} → None ≡ Some k → X
no_kind e = let z : ◌≡◌ {A = ℕ} 0 1 = cc in absurd (omega arith)

same_kind : {j k : ℕ} → Some j ≡ Some k → j ≡ k
same_kind e = cc

-- what decides: FALSE the operator 13, TRUE the operator 14
data Decided : ℕ → Value → Type 0 where
  and_false : Decided 13 (Vs.Bool false)
  or_true : Decided 14 (Vs.Bool true)

decided : (op : ℕ) (v : Value) → decides op v ≡ true → Decided op v
unfolding decides as_boolean
decided op (Vs.Int x) e = clash (sym e)
decided op (Vs.Set s) e = clash (sym e)
decided op (Vs.Bool p) e =
    elim (choose_cases (eqb op 13) e) [
      | inl h ↦ rw (eqb-true op 13 h.0, not-true p h.1) and_false
      | inr h ↦
          elim (choose_cases (eqb op 14) h.1) [
            | inl j ↦ rw (eqb-true op 14 j.0, j.1) or_true
            | inr j ↦ clash (sym j.1)
          ]
    ]

-- whatever the right operand would have given
pub decides_same : (op : ℕ) (v : Value) (q : Bool) → decides op v ≡ true → dyadic_of op v (Vs.Bool q) ≡ Ok v
unfolding dyadic_of booleans_of as_boolean choose
decides_same op v q e = go (decided op v e)
  where
    go : {op : ℕ} {v : Value} → Decided op v → dyadic_of op v (Vs.Bool q) ≡ Ok v
    go and_false = refl
    go or_true = refl

-- the kind that a typed operator gives where the left operand decides
decided_kind : {op : ℕ} {v : Value} (j : ℕ) {k : ℕ} → Decided op v → dyadic_kind op (kind_of v) j ≡ Some k → kind_of v ≡ k
unfolding dyadic_kind booleans_kind kind_of choose
decided_kind j and_false e =
    elim (choose_cases (eqb j BOOLEAN) e) [ inl h ↦ same_kind h.1 | inr h ↦ no_kind h.1 ]
decided_kind j or_true e =
    elim (choose_cases (eqb j BOOLEAN) e) [ inl h ↦ same_kind h.1 | inr h ↦ no_kind h.1 ]

-- ---- both operands' answers

-- "after both operands are found": the right operand's trap, whatever the operator would make of the left one
pub right_traps : (op : ℕ) (v : Value) (t : Trap) → decides op v ≡ false
    → applied_to op v (Err (St.Trap t)) ≡ Err (St.Trap t)
unfolding applied_to bind choose
right_traps op v t e = rw e

pub applied_typed : (op : ℕ) {v : Value} {right : Answer} {j k : ℕ} → dyadic_kind op (kind_of v) j ≡ Some k
    → InRange v → Gives j right → Gives k (applied_to op v right)
unfolding applied_to bind
applied_typed op {v} {j = j} {k} e p g =
    gives_one (decides op v) (λ h. value (decided_kind j (decided op v h) e) p) (λ h. go g e)
  where
    go : {right : Answer} {j : ℕ} → Gives j right → dyadic_kind op (kind_of v) j ≡ Some k
        → Gives k (bind right (λ w. dyadic_of op v w))
    go (value {v = w} i q) e = dyadic_typed op (rw (sym i) at e) p q
    go trapped e = trapped

pub applied_range : (op : ℕ) {v r : Value} (right : Answer) → applied_to op v right ≡ Ok r
    → InRange v → ((w : Value) → right ≡ Ok w → InRange w) → InRange r
unfolding applied_to bind
applied_range op {v} {r} right e p q =
    elim (choose_cases (decides op v) e) [
      | inl h ↦ let i : v ≡ r = cc in rw i at p
      | inr h ↦ go right q h.1
    ]
  where
    go : (right : Answer) → ((w : Value) → right ≡ Ok w → InRange w)
        → bind right (λ w. dyadic_of op v w) ≡ Ok r → InRange r
    go (Ok w) q e = dyadic_range op e p (q w refl)
    go (Err (St.Trap t)) q e = let z : ◌≡◌ {A = ℕ} 0 1 = cc in absurd (omega arith)
    go (Err St.Stuck) q e = no_value e
