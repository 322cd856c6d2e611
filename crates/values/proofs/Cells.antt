-- What a cell holds: a written value reads back, and what is read was there.
use mathlib.Core.Path.{◌≡◌, refl, sym, ap}
use mathlib.Core.Bool.{true, false}
use mathlib.Core.Logic.{inl, inr}
use Prim.Native.Nat.{ℕ}
use native.Mathlib.Omega.{arith}
use borrow.Author.Tests.{eqb-true}
use lib.Dec.{eqb}
use lib.IntN.{ℤ, pos, negsuc}
use Rattle.prelude.specs.Choice.{choose}
use Rattle.prelude.proofs.Choice.{choose_cases}
use Rattle.values.specs.Values.{BOOLEAN, INTEGER, SET, kind_of, number_of, InRange, is_integer, is_set, boolean_cell}
use Rattle.values.specs.Values.{integer_cell, set_cell, cell_of, Answer}
use Rattle.values.specs.Values.InRange.{boolean, integer, set}
use Rattle.values.specs.declared.Value.{Value}
use Rattle.values.specs.declared.Stop.TheVariants as St
use Rattle.std.specs.Prelude.{Ok, Err}

-- a value of kind k, in its range, for which a cell holds z
pub record Held (k : ℕ) (z : ℤ) (v : Value) : Type 0 where
  pub kind : kind_of v ≡ k
  pub number : number_of v ≡ z
  pub range : InRange v

-- Stuck is no value
pub no_value {ℓ} : {X : Type ℓ} {v : Value} → Err St.Stuck ≡ Ok v → X
no_value e = let z : ◌≡◌ {A = ℕ} 0 1 = cc in absurd (omega arith)

same_value_lem : {v w : Value} → ◌≡◌ {A = Answer} (Ok v) (Ok w) → v ≡ w
same_value_lem e = cc

held : {k : ℕ} {z : ℤ} {v w : Value} → Held k z v → ◌≡◌ {A = Answer} (Ok v) (Ok w) → Held k z w
held h e = rw (same_value_lem e) at h

pub held_boolean : (z : ℤ) {v : Value} → boolean_cell z ≡ Ok v → Held BOOLEAN z v
unfolding boolean_cell kind_of number_of choose
held_boolean (negsuc n) e = no_value e
held_boolean (pos n) e =
    elim (choose_cases (eqb n 0) e) [
      | inl h ↦ held (record { kind = refl; number = ap pos (sym (eqb-true n 0 h.0)); range = boolean }) h.1
      | inr h ↦
          elim (choose_cases (eqb n 1) h.1) [
            | inl j ↦ held (record { kind = refl; number = ap pos (sym (eqb-true n 1 j.0)); range = boolean }) j.1
            | inr j ↦ no_value j.1
          ]
    ]

held_integer : (z : ℤ) {v : Value} → integer_cell z ≡ Ok v → Held INTEGER z v
unfolding integer_cell kind_of number_of
held_integer z e =
    elim (choose_cases (is_integer z) e) [
      | inl h ↦ held (record { kind = refl; number = refl; range = integer h.0 }) h.1
      | inr h ↦ no_value h.1
    ]

held_set : (z : ℤ) {v : Value} → set_cell z ≡ Ok v → Held SET z v
unfolding set_cell kind_of number_of
held_set (negsuc n) e = no_value e
held_set (pos n) e =
    elim (choose_cases (is_set n) e) [
      | inl h ↦ held (record { kind = refl; number = refl; range = set h.0 }) h.1
      | inr h ↦ no_value h.1
    ]

-- what is read was there
pub cell_held : (k : ℕ) (z : ℤ) {v : Value} → cell_of k z ≡ Ok v → Held k z v
unfolding cell_of
cell_held k z e =
    elim (choose_cases (eqb k BOOLEAN) e) [
      | inl h ↦ rw (eqb-true k BOOLEAN h.0) (held_boolean z h.1)
      | inr h ↦
          elim (choose_cases (eqb k INTEGER) h.1) [
            | inl i ↦ rw (eqb-true k INTEGER i.0) (held_integer z i.1)
            | inr i ↦
                elim (choose_cases (eqb k SET) i.1) [
                  | inl j ↦ rw (eqb-true k SET j.0) (held_set z j.1)
                  | inr j ↦ no_value j.1
                ]
          ]
    ]

-- a written value reads back
pub cell_back : {v : Value} → InRange v → cell_of (kind_of v) (number_of v) ≡ Ok v
unfolding cell_of kind_of number_of boolean_cell integer_cell set_cell choose
cell_back (boolean {b = true}) = refl
cell_back (boolean {b = false}) = refl
cell_back (integer h) = rw h
cell_back (set h) = rw h
