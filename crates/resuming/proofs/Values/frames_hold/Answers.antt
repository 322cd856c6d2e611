use Prim.Native.Nat.{◌<◌}
use native.Mathlib.Omega.{arith}
use Rattle.semantics.specs.Running.{program_of}
use Rattle.asking.specs.Passes.{value_test}
use Rattle.unwinding.proofs.Over.{Over, over_start, over_procedure, over_room, over_no, over_on, over_end}
use Rattle.resuming.proofs.Values.frames_hold.Goals as goal
use Rattle.resuming.proofs.Values.frames_hold.Goals.{After-caller-older}

pub loop-q-init : goal.loop-q-init
loop-q-init c = over_start _ _ _ _ _ _ c.requires.1

pub frame_holds-requires : goal.frame_holds-requires
frame_holds-requires c =
    let over = c.loop-q.invariant in
    let room = over_room _ _ _ _ _ _ over in
    (over_procedure _ _ _ _ _ _ over, omega (arith, room, c.requires.0))

pub returns-then-not-frame_holds : goal.returns-then-not-frame_holds
returns-then-not-frame_holds c =
    over_no _ _ _ _ _ _ c.loop-q.invariant c.frame_holds.ensures c.if-not-frame_holds.true

pub returns-then-p-eq0 : goal.returns-then-p-eq0
returns-then-p-eq0 c =
    over_end _ _ _ _ _ _ c.loop-q.invariant c.frame_holds.ensures
    c.args.self.now.loaded.planned c.if-not-frame_holds.false c.if-p-eq0.true

pub caller-older-requires : goal.caller-older-requires
caller-older-requires c =
    let room = over_room _ _ _ _ _ _ c.loop-q.invariant in
    (c.requires.0, omega (arith, room, c.requires.0, c.args.self.now.most))

-- the caller's frame is next
to-caller : (c : After-caller-older)
    → let image = c.args.self.now.loaded.image.now in
    (c.caller-older.result.base < c.loop-q.b)
    × Over image (λ older. value_test (program_of image)) c.args.self.now.store.now c.args.q c.args.base
    c.args.top c.caller-older.result.procedure c.caller-older.result.base
to-caller c =
    let c = c in
    let over = c.loop-q.invariant in
    let room = over_room _ _ _ _ _ _ over in
    over_on _ _ _ _ _ _ over c.frame_holds.ensures c.args.self.now.loaded.planned
    c.if-not-frame_holds.false (omega (arith, room, c.requires.0, c.args.self.now.most))
    c.if-p-eq0.false c.caller-older.ensures

pub loop-q-smaller : goal.loop-q-smaller
loop-q-smaller c = (to-caller c).0

pub loop-q-preserved : goal.loop-q-preserved
loop-q-preserved c = (to-caller c).1
