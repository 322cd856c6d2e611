use native.Mathlib.Omega.{arith}
use Rattle.semantics.specs.Running.{program_of}
use Rattle.access.proofs.Bounds.{procedures_some}
use Rattle.unwinding.specs.Going.{Newest}
use Rattle.unwinding.proofs.Walking.{walked_procedure}
use Rattle.referents.proofs.Finding.{globals_there, in_globals, newest_found, newest_stacked, own_there}
use Rattle.referents.proofs.Finding.{in_newest}
use Rattle.referents.proofs.Lending.{lent_by}
use Rattle.referents.proofs.State.object_at.Goals as goal
use Rattle.referents.proofs.State.object_at.Goals.{After-frame_below-frame}

pub first_variable-n-requires : goal.first_variable-n-requires
first_variable-n-requires c = procedures_some c.args.self.now.loaded.planned

pub in_places-requires : goal.in_places-requires
in_places-requires c = (lent_by c.args.self.now.loaded.planned c.args.self.now.edges, c.requires.1, globals_there c.args.self.now.loaded.planned c.first_variable-n.ensures)

pub returns-then-at-global_room : goal.returns-then-at-global_room
returns-then-at-global_room c = λ p qs older framed oldest start. in_globals c.args.self.now.loaded.planned c.first_variable-n.ensures
    c.global_room.ensures c.if-at-global_room.true _ c.in_places.ensures qs

-- the frame that is found
found : (c : After-frame_below-frame)
    → Newest (program_of c.args.self.now.loaded.image.now) c.requires.0.frames c.args.self.now.store.now c.args.self.now.top
    c.args.at c.frame_below-frame.result
found c = let c = c in
    newest_stacked c.args.self.now.loaded.planned c.global_room.ensures c.if-at-global_room.false c.requires.2
    c.requires.3 c.frame_below-frame.ensures c.requires.0

pub first_variable-first-requires : goal.first_variable-first-requires
first_variable-first-requires c = walked_procedure _ (found c).walked

pub overflow_sub-at : goal.overflow_sub-at
overflow_sub-at c = omega (arith, (found (goal.at.overflow_sub-at c).After-frame_below-frame).below)

pub in_places-requires-2 : goal.in_places-requires-2
in_places-requires-2 c = let there = own_there c.args.self.now.loaded.planned (found (goal.at.in_places-requires-2 c).After-frame_below-frame) c.first_variable-first.ensures
    c.claimed_by-n.ensures in
    (lent_by c.args.self.now.loaded.planned c.args.self.now.edges, c.requires.1, there)

pub returns : goal.returns
returns c =
    let p = c.args.self.now.loaded.planned in
    λ o qs older framed oldest start.
    let n = newest_found p c.global_room.ensures c.if-at-global_room.false c.requires.2
    c.requires.3 c.frame_below-frame.ensures framed oldest start in
    in_newest p n c.first_variable-first.ensures c.claimed_by-n.ensures _
    c.in_places-2.ensures
