use mir.Facts.{to_z-of_z}
use mir.Syntax.{w32}
use mir.Val.{to_z, of_z}
use mathlib.Core.Bool.{true}
use mathlib.Core.Logic.{inl, inr}
use mathlib.Core.Path.{◌≡◌, sym, ◌∙◌}
use borrow.Author.Tests.{eq-eqb, eqb-true}
use Rattle.prelude.proofs.Choice.{also_pass, also_true, clash, not_yes}
use Rattle.asking.specs.Continuing.{unfinished}
use Rattle.resuming.proofs.Numbers.{zero_told}
use Rattle.resuming.proofs.is_unfinished.Goals as goal
use Rattle.resuming.proofs.is_unfinished.Goals.{then-r-eq0-3, else-r-eq0-3, Else-r-eq0-4}

pub returns-then-r-eq0-4 : goal.returns-then-r-eq0-4
unfolding unfinished
returns-then-r-eq0-4 c =
    let (refusal, fault, outcome, trap) = c.if-r-eq0-4.true in
    let back : to_z w32 (of_z w32 c.args.r.halt) ≡ c.args.r.halt =
    to_z-of_z {w = w32} (record { sfits = c.struct_told-1.given.1.1.1.1.0.1 }) in
    zero_told c.args.r.halt back
    ∙ sym (also_pass _ (eq-eqb _ 0 refusal) ∙ also_pass _ (eq-eqb _ 0 fault)
    ∙ also_pass _ (eq-eqb _ 0 outcome) ∙ also_pass _ (eq-eqb _ 0 trap))

-- where one of the first four numbers is not 0
refuted : (c : Else-r-eq0-4) → unfinished c.args.r ≡ true → ⊥
unfolding unfinished
refuted c holds =
    let (refusal, one) = also_true _ _ holds in
    let (fault, two) = also_true _ _ one in
    let (outcome, three) = also_true _ _ two in
    let (trap, last) = also_true _ _ three in
    elim c.if-r-eq0-3.branch [
      | then-r-eq0-3 u ↦ clash (sym trap ∙ search (← u.t-3-is))
      | else-r-eq0-3 u ↦ elim u.if-r-eq0-3.either [
        | inl (same, also, other) ↦ other (eqb-true _ _ outcome)
        | inr rest ↦ elim rest [ inl (same, other) ↦ other (eqb-true _ _ fault) | inr other ↦ other (eqb-true _ _ refusal) ]
      ]
    ]

pub returns-else-r-eq0-4 : goal.returns-else-r-eq0-4
returns-else-r-eq0-4 c = search (not_yes _ (refuted c))
