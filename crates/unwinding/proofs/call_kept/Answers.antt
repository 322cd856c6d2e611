use mathlib.Core.Path.{◌≡◌, refl, sym, ◌∙◌}
use Prim.Native.Nat.{◌-◌}
use borrow.Author.Tests.{ne_eqb, eq-eqb, le-leb, lt-leb}
use lib.Dec.{eqb}
use mathlib.Core.Logic.{inl, inr}
use Rattle.prelude.specs.Choice.{◌also◌}
use Rattle.prelude.proofs.Choice.{also_left, also_right, also_pass}
use Rattle.semantics.specs.Running.{program_of}
use Rattle.asking.specs.State.{inside_kept, call_kept}
use Rattle.unwinding.proofs.Conjunctions.{both_yes, both_no, three_more}
use Rattle.unwinding.proofs.call_kept.Goals as goal
use Rattle.unwinding.proofs.call_kept.Goals.{then-row-eq1, else-row-eq1, then-row-q, else-row-q}
use Rattle.unwinding.proofs.call_kept.Goals.{Joined-row-q}

pub returns-then-back-lt1 : goal.returns-then-back-lt1
unfolding call_kept
returns-then-back-lt1 c = sym (also_left _ (lt-leb _ _ c.if-back-lt1.true))

-- the first three tests
three : (c : Joined-row-q) → c.if-row-q.value ≡ (eqb c.statement_at-row.result.kind 1
    also eqb c.statement_at-row.result.a c.args.q
    also inside_kept (program_of c.args.loaded.now.image.now) c.args.c (c.args.back - 1))
three c = elim c.if-row-q.branch [
  | then-row-q v ↦ let (first, second) = v.if-row-q.true in
      v.value-is ∙ v.inside.ensures ∙ sym (also_pass _ (eq-eqb _ _ first) ∙ also_pass _ (eq-eqb _ _ second))
  | else-row-q v ↦ elim c.if-row-eq1.branch [
    | then-row-eq1 w ↦ let other : c.statement_at-row.result.a ≡ c.args.q → ⊥ = elim v.if-row-q.either [
      | inl h ↦ h.1
      | inr none ↦ λ e. none w.if-row-eq1.true
    ] in
        let fails = ne_eqb _ _ other in
        v.value-is ∙ w.t-11-is ∙ fails ∙ sym (also_right _ (also_left _ fails))
    | else-row-eq1 w ↦ let fails = ne_eqb _ _ w.if-row-eq1.false in
        v.value-is ∙ w.t-11-is ∙ fails ∙ sym (also_left _ fails)
  ]
]

pub returns-then-inside : goal.returns-then-inside
unfolding call_kept
returns-then-inside c =
    let last = inside_kept (program_of c.args.loaded.now.image.now) c.args.c c.args.back in
    let most = three (goal.at.returns-then-inside c).Joined-row-q in
    let four = three_more _ _ _ last most (both_yes last c.if-inside.true c.inside-then-inside.ensures) in
    rw c.statement_at-row.ensures at four ∙ sym (also_pass _ (le-leb _ _ c.if-back-lt1.false))

pub returns-else-inside : goal.returns-else-inside
unfolding call_kept
returns-else-inside c =
    let last = inside_kept (program_of c.args.loaded.now.image.now) c.args.c c.args.back in
    let most = three (goal.at.returns-else-inside c).Joined-row-q in
    let four = three_more _ _ _ last most (both_no last c.if-inside.false refl) in
    rw c.statement_at-row.ensures at four ∙ sym (also_pass _ (le-leb _ _ c.if-back-lt1.false))
