use Prim.Native.Nat.{◌<◌}
use Rattle.semantics.specs.Running.{program_of}
use Rattle.asking.specs.Passes.{reference_test, references_pass}
use Rattle.unwinding.proofs.Over.{Over, over_start, over_procedure, over_room, over_no, over_on, over_end}
use Rattle.referents.proofs.Going.{here_stacked, here_low, here_answer}
use Rattle.referents.proofs.State.all_references.Goals as goal
use Rattle.referents.proofs.State.all_references.Goals.{After-caller-caller}

pub loop-q-init : goal.loop-q-init
loop-q-init c = over_start _ _ _ _ _ _ c.requires.1.walked

pub frame_references-requires : goal.frame_references-requires
frame_references-requires c = let over = c.loop-q.invariant in (
  c.requires.0,
  here_stacked _ _ _ _ _ c.requires.1 over,
  over_procedure _ _ _ _ _ _ over,
  over_room _ _ _ _ _ _ over,
)

pub returns-then-not-frame_references : goal.returns-then-not-frame_references
unfolding references_pass
returns-then-not-frame_references c = let over = c.loop-q.invariant in
    over_no _ _ _ _ _ _ over (here_answer _ _ _ _ _ c.requires.1 over c.frame_references.ensures)
    c.if-not-frame_references.true

pub returns-then-procedure-eq0 : goal.returns-then-procedure-eq0
unfolding references_pass
returns-then-procedure-eq0 c = let over = c.loop-q.invariant in
    over_end _ _ _ _ _ _ over (here_answer _ _ _ _ _ c.requires.1 over c.frame_references.ensures)
    c.args.self.now.loaded.planned c.if-not-frame_references.false c.if-procedure-eq0.true

pub caller-caller-requires : goal.caller-caller-requires
caller-caller-requires c = (c.requires.1.cells, here_low _ _ _ _ _ c.requires.1 c.loop-q.invariant)

-- the caller's frame is next
to-caller : (c : After-caller-caller)
    → let image = c.args.self.now.loaded.image.now in
    (c.caller-caller.result.base < c.loop-q.at)
    × Over image (reference_test (program_of image)) c.args.self.now.store.now c.args.q c.args.base c.args.self.now.top
    c.caller-caller.result.procedure c.caller-caller.result.base
to-caller c = let c = c in
    let over = c.loop-q.invariant in
    let answer = c.frame_references.ensures in
    over_on _ _ _ _ _ _ over (here_answer _ _ _ _ _ c.requires.1 over answer)
    c.args.self.now.loaded.planned c.if-not-frame_references.false (here_low _ _ _ _ _ c.requires.1 over)
    c.if-procedure-eq0.false c.caller-caller.ensures

pub loop-q-smaller : goal.loop-q-smaller
loop-q-smaller c = (to-caller c).0

pub loop-q-preserved : goal.loop-q-preserved
loop-q-preserved c = (to-caller c).1
