use Prim.Native.Nat.{◌+◌, ◌≤◌, ◌<◌}
use native.Mathlib.Omega.{arith}
use Rattle.image.specs.Rows.{rows_of}
use Rattle.access.proofs.Bounds.{claimed_there, variables_few}
use Rattle.unwinding.proofs.Next.{skips_within}
use Rattle.unwinding.proofs.Walking.{frame_links}
use Rattle.semantics.specs.Running.{program_of}
use Rattle.referents.proofs.Parameters.{end_is, passed_start, parameter_there, parameter_room}
use Rattle.referents.proofs.Parameters.{passed_no, passed_next, passed_end}
use Rattle.referents.proofs.State.frame_references.Goals as goal
use Rattle.referents.proofs.State.frame_references.Goals.{After-first_variable-first, Else-not-parameter}

pub first_variable-first-requires : goal.first_variable-first-requires
first_variable-first-requires c =
    c.requires.2

pub overflow_add-end : goal.overflow_add-end
overflow_add-end c =
    let p = c.args.self.now.loaded.planned in
    omega (
      arith,
      end_is c.args.self.now.loaded.image.now c.args.q c.procedure_at-procedure.ensures
          c.first_variable-first.ensures,
      claimed_there p _ c.requires.2,
      variables_few p,
    )

-- the first variable is there, or the row behind the last
first-there : (c : After-first_variable-first)
    → c.first_variable-first.result ≤ rows_of (program_of c.args.self.now.loaded.image.now).variables
first-there c =
    let c = c in
    omega (arith, claimed_there c.args.self.now.loaded.planned _ c.requires.2, c.first_variable-first.ensures)

pub offset_bounds-next-first : goal.offset_bounds-next-first
offset_bounds-next-first c =
    omega (arith, first-there (goal.at.offset_bounds-next-first c).After-first_variable-first, variables_few c.args.self.now.loaded.planned)

pub bounds-next-first : goal.bounds-next-first
bounds-next-first c =
    omega (arith, first-there (goal.at.bounds-next-first c).After-first_variable-first, c.requires.0.room)

pub overflow_cast-k-2 : goal.overflow_cast-k-2
overflow_cast-k-2 c =
    let p = c.args.self.now.loaded.planned in
    omega (arith, skips_within _ c.requires.0 _ (first-there (goal.at.overflow_cast-k-2 c).After-first_variable-first), variables_few p)

pub loop-k-init : goal.loop-k-init
loop-k-init c =
    passed_start _ _ _ _ _ _ c.first_variable-first.ensures (c.requires.0.each _ (first-there (goal.at.loop-k-init c).After-first_variable-first))

pub parameter-requires : goal.parameter-requires
parameter-requires c =
    let image = c.args.self.now.loaded.image.now in
    let q = c.args.q in
    let p = c.args.self.now.loaded.planned in
    let low = c.loop-k.invariant.least in
    let more = rw (end_is image q c.procedure_at-procedure.ensures
    c.first_variable-first.ensures) at c.loop-k-test.true in (
      c.requires.1,
      parameter_there image q p c.requires.2 low more,
      omega (arith, c.requires.3, frame_links (program_of image) q, c.requires.1.cells, c.requires.1.small),
      parameter_room image q p c.requires.2 low more c.args.base c.requires.3,
    )

pub returns-then-not-parameter : goal.returns-then-not-parameter
returns-then-not-parameter c =
    let image = c.args.self.now.loaded.image.now in
    let q = c.args.q in
    let more = rw (end_is image q c.procedure_at-procedure.ensures
    c.first_variable-first.ensures) at c.loop-k-test.true in
    passed_no image q _ _ _ _ c.args.self.now.loaded.planned c.requires.2 c.loop-k.invariant more
    c.parameter.ensures c.if-not-parameter.true

-- the parameter is there
row_there : (c : Else-not-parameter)
    → c.loop-k.k < rows_of (program_of c.args.self.now.loaded.image.now).variables
row_there c =
    let c = c in
    let image = c.args.self.now.loaded.image.now in
    let more = rw (end_is image c.args.q c.procedure_at-procedure.ensures
    c.first_variable-first.ensures) at c.loop-k-test.true in
    parameter_there image c.args.q c.args.self.now.loaded.planned c.requires.2
    c.loop-k.invariant.least more

pub overflow_add-k : goal.overflow_add-k
overflow_add-k c =
    omega (arith, row_there c, variables_few c.args.self.now.loaded.planned)

pub offset_bounds-next-k : goal.offset_bounds-next-k
offset_bounds-next-k c =
    omega (arith, row_there c, variables_few c.args.self.now.loaded.planned)

pub bounds-next-k : goal.bounds-next-k
bounds-next-k c =
    omega (arith, row_there (goal.at.bounds-next-k c).Else-not-parameter, c.requires.0.room)

pub overflow_cast-k-in-loop-k-2 : goal.overflow_cast-k-in-loop-k-2
overflow_cast-k-in-loop-k-2 c =
    let l = c.loop-k in
    let p = c.args.self.now.loaded.planned in
    omega (arith, skips_within _ c.requires.0 (l.k + 1) (omega (arith, row_there (goal.at.overflow_cast-k-in-loop-k-2 c).Else-not-parameter)), variables_few p)

pub loop-k-smaller : goal.loop-k-smaller
loop-k-smaller c =
    let l = c.loop-k in
    let next = skips_within _ c.requires.0 (l.k + 1) (omega (arith, row_there (goal.at.loop-k-smaller c).Else-not-parameter)) in
    omega (arith, next, c.loop-k-test.true)

pub loop-k-preserved : goal.loop-k-preserved
loop-k-preserved c =
    let image = c.args.self.now.loaded.image.now in
    let q = c.args.q in
    let l = c.loop-k in
    let more = rw (end_is image q c.procedure_at-procedure.ensures
    c.first_variable-first.ensures)
    at c.loop-k-test.true in
    passed_next image q _ _ _ _ c.args.self.now.loaded.planned c.requires.2 l.invariant more
    c.parameter.ensures c.if-not-parameter.false
    (c.requires.0.each (l.k + 1) (omega (arith, row_there (goal.at.loop-k-preserved c).Else-not-parameter)))

pub returns : goal.returns
returns c =
    let image = c.args.self.now.loaded.image.now in
    let q = c.args.q in
    let done = rw (end_is image q c.procedure_at-procedure.ensures
    c.first_variable-first.ensures) at c.loop-k-test.false in
    passed_end image q _ _ _ _ c.args.self.now.loaded.planned c.requires.2 c.loop-k.invariant done
