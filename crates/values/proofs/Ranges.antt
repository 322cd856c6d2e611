-- Each value is in its kind's range: of a cell, a constant; and the numbers of the traps.
use mathlib.Core.Path.{◌≡◌, refl, sym}
use mathlib.Core.Bool.{Bool, true, false}
use mathlib.Core.Logic.{inl, inr}
use Prim.Native.Nat.{ℕ, zero, suc, ◌+◌, ◌*◌, ◌≤◌, ◌<◌}
use native.Mathlib.Omega.{arith}
use borrow.Author.Tests.{eqb-true, eqb-false, ltb-true, ltb-false}
use lib.Dec.{eqb, ltb}
use lib.IntN.{ℤ, pos, ◌-ℤ◌}
use mir.Syntax.{w32}
use mir.Val.{SFits}
use Rattle.prelude.specs.Choice.{choose}
use Rattle.prelude.proofs.Choice.{choose_cases}
use Rattle.values.specs.Values.{BOOLEAN, INTEGER, SET, kind_of, InRange, cell_of, boolean_cell, signed_of}
use Rattle.values.specs.Values.{constant_of, trap_number, Gives}
use Rattle.values.specs.Values.Gives.{value}
use Rattle.values.specs.declared.Value.{Value}
use Rattle.values.specs.declared.Trap.{Trap}
use Rattle.values.specs.declared.Trap.TheVariants as Ts
use Rattle.values.proofs.Numbers.{minus_top}
use Rattle.values.proofs.Cells.{no_value, cell_held, held_boolean}
use Rattle.values.proofs.Giving.{gives_boolean, gives_integer, gives_set, gives_one, gives_kind, gives_range}
use Rattle.std.specs.Prelude.{Ok}

-- ---- a cell, whatever number it holds

pub cell_range : (k : ℕ) (z : ℤ) {r : Value} → cell_of k z ≡ Ok r → InRange r
cell_range k z e = (cell_held k z e).range

-- ---- a constant of two 16-bit numbers

-- two's complement of 32 bits is in the range of INTEGER
signed_fits : (n : ℕ) → n < 4294967296 → SFits w32 (signed_of n)
unfolding signed_of choose
signed_fits n h = go (ltb n 2147483648) refl
  where
    go : (t : Bool) → ltb n 2147483648 ≡ t → SFits w32 (choose t (pos n) (pos n -ℤ pos 4294967296))
    go true e = record { sfits = ltb-true n 2147483648 e }
    go false e = record { sfits = minus_top n (ltb-false n 2147483648 e) h }

constant_gives : (kind b c : ℕ) → b < 65536 → c < 65536 → {r : Value} → constant_of kind b c ≡ Ok r
    → Gives kind (Ok r)
unfolding constant_of
constant_gives kind b c p q e =
    let fits = signed_fits (b * 65536 + c) (omega arith) in
    elim (choose_cases (eqb kind BOOLEAN) e) [
      | inl h ↦ let z = held_boolean _ h.1 in rw (eqb-true kind BOOLEAN h.0) (value z.kind z.range)
      | inr h ↦
          elim (choose_cases (eqb kind INTEGER) h.1) [
            | inl i ↦ rw (eqb-true kind INTEGER i.0, sym i.1) (gives_integer _ fits)
            | inr i ↦
                elim (choose_cases (eqb kind SET) i.1) [
                  | inl j ↦ rw (eqb-true kind SET j.0, sym j.1) (gives_set (b * 65536 + c) (omega arith))
                  | inr j ↦ no_value j.1
                ]
          ]
    ]

module _ (kind b c : ℕ) (p : b < 65536) (q : c < 65536) {r : Value} (e : constant_of kind b c ≡ Ok r) where
  pub constant_kind : kind_of r ≡ kind
  constant_kind = gives_kind (constant_gives kind b c p q e)

  pub constant_range : InRange r
  constant_range = gives_range (constant_gives kind b c p q e)

-- a BOOLEAN of 0 or 1, an INTEGER and a SET are never stuck
pub constant_typed : (kind b c : ℕ) → kind < 3 → (kind ≡ BOOLEAN → b * 65536 + c < 2) → b < 65536 → c < 65536
    → Gives kind (constant_of kind b c)
unfolding constant_of boolean_cell choose
constant_typed zero b c h t p q =
    let n = b * 65536 + c in
    let l = t refl in
    gives_one (eqb n 0) (λ e. gives_boolean false)
    (λ e. gives_one (eqb n 1) (λ f. gives_boolean true)
    (λ f. absurd (omega (arith, eqb-false n 0 e, eqb-false n 1 f))))
constant_typed (suc zero) b c h t p q = gives_integer _ (signed_fits (b * 65536 + c) (omega arith))
constant_typed (suc (suc zero)) b c h t p q = gives_set (b * 65536 + c) (omega arith)
constant_typed (suc (suc (suc k))) b c h t p q = absurd (omega arith)

-- ---- the traps, 1 to 10

pub trap_range : (t : Trap) → (1 ≤ trap_number t) × (trap_number t ≤ 10)
unfolding trap_number
trap_range Ts.Index = (omega arith, omega arith)
trap_range Ts.Guard = (omega arith, omega arith)
trap_range Ts.Target = (omega arith, omega arith)
trap_range Ts.Overflow = (omega arith, omega arith)
trap_range Ts.Divisor = (omega arith, omega arith)
trap_range Ts.Bound = (omega arith, omega arith)
trap_range Ts.Frame = (omega arith, omega arith)
trap_range Ts.Input = (omega arith, omega arith)
trap_range Ts.Output = (omega arith, omega arith)
trap_range Ts.Halt = (omega arith, omega arith)

pub halt_number : trap_number Ts.Halt ≡ 10
unfolding trap_number
halt_number = refl
