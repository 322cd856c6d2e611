use mathlib.Core.Path.{◌≡◌}
use native.Mathlib.Omega.{arith}
use borrow.Author.Tests.{ne_eqb}
use Rattle.prelude.specs.Choice.{choose}
use Rattle.operators.specs.Operators.{sets_of, compare_of}
use Rattle.values.proofs.Numbers.{inside, under, over}
use mathlib.Core.Bool.{false, ◌&&◌}
use lib.Dec.{leb, eqb}
use Rattle.values.specs.declared.Value.TheVariants as Vs
use Rattle.values.specs.declared.Stop.TheVariants as St
use Prim.Native.Nat.{ℕ}
use Rattle.operators.proofs.sets.Goals as goal
use Rattle.std.specs.Prelude.{Ok, Err}

-- `operators::sets` meets its contract: by the operator number and its ranges.
-- another operator than 1, 2, 3 and 6
others : (op s t : ℕ) → (op ≡ 1 → ⊥) → (op ≡ 2 → ⊥) → (op ≡ 3 → ⊥) → (op ≡ 6 → ⊥)
    → sets_of op s t ≡ choose (leb 7 op && leb op 8) (Ok (Vs.Bool (compare_of op false (eqb s t)))) (Err St.Stuck)
unfolding sets_of choose
others op s t a b c d = rw (ne_eqb _ 1 a, ne_eqb _ 2 b, ne_eqb _ 3 c, ne_eqb _ 6 d)

pub returns-in-1 : goal.returns-in-1
unfolding sets_of choose
returns-in-1 c = rw c.in-1.is

pub returns-in-2 : goal.returns-in-2
unfolding sets_of choose
returns-in-2 c = rw (c.complement.ensures, c.in-2.is)

pub returns-in-3 : goal.returns-in-3
unfolding sets_of choose
returns-in-3 c = rw c.in-3.is

pub returns-in-6 : goal.returns-in-6
unfolding sets_of choose
returns-in-6 c = rw c.in-6.is

pub returns-in-7-to-8 : goal.returns-in-7-to-8
unfolding choose
returns-in-7-to-8 c =
    let a = c.args in
    rw (c.compare.ensures, others a.op a.s a.t (omega arith) (omega arith) (omega arith) (omega arith))
    (rw (inside 7 8 a.op (omega arith) (omega arith)))

pub returns-in_default : goal.returns-in_default
unfolding choose
returns-in_default c =
    let a = c.args in
    rw (others a.op a.s a.t (omega arith) (omega arith) (omega arith) (omega arith), under 7 8 a.op (omega arith))

pub returns-in_default-2 : goal.returns-in_default-2
unfolding choose
returns-in_default-2 c =
    let a = c.args in
    rw (others a.op a.s a.t (omega arith) (omega arith) (omega arith) (omega arith), over 7 8 a.op (omega arith))
