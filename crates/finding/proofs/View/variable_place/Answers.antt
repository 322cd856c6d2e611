use mathlib.Core.Path.{◌∙◌}
use Prim.Native.Nat.{ℕ, ◌<◌, ◌≤◌}
use native.Mathlib.Omega.{arith}
use borrow.Author.Tests.{lt-leb, le-leb, ne_eqb, eq-eqb}
use Rattle.prelude.specs.Choice.{choose}
use Rattle.image.specs.Rows.{rows_of}
use Rattle.image.proofs.Bytes.{row_there}
use Rattle.semantics.specs.Running.{program_of}
use Rattle.semantics.specs.Finding.{variable_place}
use Rattle.access.proofs.Bounds.{place_low}
use Rattle.finding.proofs.View.variable_place.Goals as goal
use Rattle.finding.proofs.View.variable_place.Goals.{Else-row-gt3, Else-row-eq0}

-- the variable's row is there
variable_there : (c : Else-row-gt3) → c.args.a < rows_of (program_of c.args.self.now.loaded.image.now).variables
variable_there c =
    let h : c.variable_at-row.result.kind < 255 = omega arith in
    row_there _ _ (rw c.variable_at-row.ensures at h)

-- and its place is low
place-small : (c : Else-row-eq0) → c.args.a < rows_of (program_of c.args.self.now.loaded.image.now).variables
    → c.place_of-place.result ≤ 1048579
place-small c l =
    rw c.place_of-place.ensures
    (place_low c.args.self.now.loaded.planned c.args.a l)

pub returns-then-row-gt3 : goal.returns-then-row-gt3
unfolding variable_place choose
returns-then-row-gt3 c =
    let row = c.variable_at-row in
    let k : ℕ = row.result.kind in
    let h : 3 < k = c.if-row-gt3.true in
    rw (← row.ensures, ne_eqb k 0 (omega arith), lt-leb k 2 (omega arith), ne_eqb k 3 (omega arith))

pub place_of-place-requires : goal.place_of-place-requires
place_of-place-requires c = variable_there (goal.at.place_of-place-requires c).Else-row-gt3

pub returns-then-row-eq0 : goal.returns-then-row-eq0
unfolding variable_place choose
returns-then-row-eq0 c =
    c.plain.ensures
    ∙ rw (c.place_of-place.ensures, ← c.variable_at-row.ensures, c.if-row-eq0.true)

pub overflow_add-at : goal.overflow_add-at
overflow_add-at c =
    let l = place-small (goal.at.overflow_add-at c).Else-row-eq0 (variable_there (goal.at.overflow_add-at c).Else-row-gt3) in
    record { fits = omega (arith, c.args.self.now.low) }

pub returns-then-row-lt3 : goal.returns-then-row-lt3
unfolding variable_place choose
returns-then-row-lt3 c =
    let row = c.variable_at-row in
    let k : ℕ = row.result.kind in
    c.plain-then-row-lt3.ensures
    ∙ rw (c.place_of-place.ensures, ← row.ensures, ne_eqb k 0 c.if-row-eq0.false, le-leb k 2 (omega arith))

pub parameter_place-requires : goal.parameter_place-requires
parameter_place-requires c =
    let l = place-small (goal.at.parameter_place-requires c).Else-row-eq0 (variable_there (goal.at.parameter_place-requires c).Else-row-gt3) in
    omega (arith, c.args.self.now.low)

pub returns : goal.returns
unfolding variable_place choose
returns c =
    let row = c.variable_at-row in
    let k : ℕ = row.result.kind in
    c.parameter_place.ensures
    ∙ rw (
      c.place_of-place.ensures,
      ← row.ensures,
      ne_eqb k 0 c.if-row-eq0.false,
      lt-leb k 2 (omega arith),
      eq-eqb k 3 (omega arith),
    )
