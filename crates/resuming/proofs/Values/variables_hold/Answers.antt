use mathlib.Core.Path.{sym, ◌∙◌}
use native.Mathlib.Omega.{arith}
use Prim.Native.Nat.{◌+◌, ◌<◌}
use Rattle.image.specs.Rows.{rows_of}
use Rattle.semantics.specs.Running.{program_of}
use Rattle.asking.proofs.Variables.{along_start, ahead_room, ahead_no, ahead_more, ahead_end}
use Rattle.access.proofs.Bounds.{variables_few}
use Rattle.unwinding.proofs.Next.{skips_within, ahead_next}
use Rattle.resuming.proofs.Testing.{test_free}
use Rattle.resuming.proofs.Values.variables_hold.Goals as goal
use Rattle.resuming.proofs.Values.variables_hold.Goals.{Else-not-variable_holds}

pub overflow_add-end : goal.overflow_add-end
overflow_add-end c = omega (arith, variables_few c.args.self.now.loaded.planned, c.requires.0)

pub offset_bounds-self-k : goal.offset_bounds-self-k
offset_bounds-self-k c = omega (arith, variables_few c.args.self.now.loaded.planned, c.requires.0)

pub bounds-self-k : goal.bounds-self-k
bounds-self-k c = omega (arith, c.args.self.now.skips.room, c.requires.0)

pub overflow_cast-j-2 : goal.overflow_cast-j-2
overflow_cast-j-2 c = let next = skips_within _ c.args.self.now.skips c.args.k (omega (arith, c.requires.0)) in
    omega (arith, next, variables_few c.args.self.now.loaded.planned)

pub loop-j-init : goal.loop-j-init
loop-j-init c = ahead_next _ (along_start _ _ _ _ _ _) (c.args.self.now.skips.each c.args.k (omega (arith, c.requires.0)))

pub variable_holds-requires : goal.variable_holds-requires
variable_holds-requires c =
    let low = c.loop-j-test.true in
    let room = ahead_room _ _ (test_free _) c.loop-j.invariant low in
    (omega (arith, c.requires.0), omega (arith, room, c.requires.1))

pub returns-then-not-variable_holds : goal.returns-then-not-variable_holds
returns-then-not-variable_holds c =
    sym (ahead_no _ _ (test_free _) c.loop-j.invariant c.loop-j-test.true
    (sym c.variable_holds.ensures ∙ c.if-not-variable_holds.true))

-- row j is there
there : (c : Else-not-variable_holds)
    → c.loop-j.j < rows_of (program_of c.args.self.now.loaded.image.now).variables
there c = let c = c in
    omega (arith, c.requires.0, c.loop-j-test.true)

pub width_of-at-requires : goal.width_of-at-requires
width_of-at-requires c = there c

pub overflow_add-at : goal.overflow_add-at
overflow_add-at c = let room = ahead_room _ _ (test_free _) c.loop-j.invariant
    c.loop-j-test.true in
    omega (arith, room, c.width_of-at.ensures, c.requires.1, c.args.self.now.most)

pub overflow_add-j : goal.overflow_add-j
overflow_add-j c = omega (arith, there (goal.at.overflow_add-j c).Else-not-variable_holds, variables_few c.args.self.now.loaded.planned)

pub offset_bounds-self-j : goal.offset_bounds-self-j
offset_bounds-self-j c = omega (arith, there (goal.at.offset_bounds-self-j c).Else-not-variable_holds, variables_few c.args.self.now.loaded.planned)

pub bounds-self-j : goal.bounds-self-j
bounds-self-j c = omega (arith, there (goal.at.bounds-self-j c).Else-not-variable_holds, c.args.self.now.skips.room)

pub overflow_cast-j-in-loop-j-2 : goal.overflow_cast-j-in-loop-j-2
overflow_cast-j-in-loop-j-2 c = let loop = c.loop-j in
    let next = skips_within _ c.args.self.now.skips (loop.j + 1) (omega (arith, there (goal.at.overflow_cast-j-in-loop-j-2 c).Else-not-variable_holds)) in
    omega (arith, next, variables_few c.args.self.now.loaded.planned)

pub loop-j-smaller : goal.loop-j-smaller
loop-j-smaller c = let loop = c.loop-j in
    let next = skips_within _ c.args.self.now.skips (loop.j + 1) (omega (arith, there (goal.at.loop-j-smaller c).Else-not-variable_holds)) in
    omega (arith, next, c.loop-j-test.true)

pub loop-j-preserved : goal.loop-j-preserved
loop-j-preserved c = let loop = c.loop-j in
    let passes = sym c.variable_holds.ensures
    ∙ c.if-not-variable_holds.false in
    ahead_next _
    (ahead_more _ _ (test_free _) loop.invariant c.loop-j-test.true passes
    c.width_of-at.ensures)
    (c.args.self.now.skips.each (loop.j + 1) (omega (arith, there (goal.at.loop-j-preserved c).Else-not-variable_holds)))

pub returns : goal.returns
returns c = sym (ahead_end _ _ (test_free _) c.loop-j.invariant c.loop-j-test.false)
