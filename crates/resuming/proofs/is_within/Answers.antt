use mathlib.Core.Logic.{inl, inr}
use mathlib.Core.Path.{sym, ◌∙◌}
use lib.ListN.{length}
use Prim.Native.Nat.{◌<◌}
use native.Mathlib.Omega.{arith}
use borrow.Author.Tests.{lt-leb, le-leb}
use Rattle.prelude.proofs.Choice.{also_left, also_right, also_pass}
use Rattle.asking.specs.Continuing.{within_lent}
use Rattle.resuming.proofs.Numbers.{steps_told}
use Rattle.resuming.proofs.is_within.Goals as goal
use Rattle.resuming.proofs.is_within.Goals.{then-r-input, else-r-input}

pub returns-then-r-output : goal.returns-then-r-output
unfolding within_lent
returns-then-r-output c =
    let (read, written) = c.if-r-output.true in
    steps_told c.args.r.steps c.args.steps (omega (arith, c.well_formed))
    ∙ sym (also_pass _ (le-leb _ _ read) ∙ also_pass _ (le-leb _ _ written))

pub returns-else-r-output : goal.returns-else-r-output
unfolding within_lent
returns-else-r-output c = elim c.if-r-input.branch [
  | then-r-input w ↦
      let more : length c.args.output.now < c.args.r.at.written = elim c.if-r-output.either [
        | inl h ↦ h.1
        | inr more ↦ absurd (omega (arith, more, w.if-r-input.true))
      ] in
      let no = lt-leb _ _ more in
      w.t-6-is ∙ no ∙ sym (also_right _ (also_left _ no))
  | else-r-input w ↦ let no = lt-leb _ _ w.if-r-input.false in w.t-6-is ∙ no ∙ sym (also_left _ no)
]
