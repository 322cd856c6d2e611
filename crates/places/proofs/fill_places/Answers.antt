use Prim.Native.Nat.{◌≤◌}
use lib.ListN.{length}
use native.Mathlib.Omega.{arith}
use Rattle.sizes.specs.Cells.{FIRSTS}
use Rattle.places.proofs.Placing.{begun, globals_fit, globals_rows, frames_fit, places_filled}
use Rattle.places.proofs.fill_places.Goals as goal

pub place_run-end-requires : goal.place_run-end-requires
place_run-end-requires c =
    let cells : FIRSTS ≤ length c.args.plan.now = let many = c.requires.cells in omega arith in
    let one = begun _ _ c.args.plan.now _ cells c.first_variables.ensures in
    let fit = globals_fit _ _ _ _ _ c.requires _ one in
    (fit, globals_rows _ _ _ _ _ c.requires _ one _ c.globals-globals.ensures, omega arith)

pub place_frames-requires : goal.place_frames-requires
place_frames-requires c =
    let cells : FIRSTS ≤ length c.args.plan.now = let many = c.requires.cells in omega arith in
    let one = begun _ _ c.args.plan.now _ cells c.first_variables.ensures in
    let run = c.place_run-end.ensures in
    frames_fit _ _ _ _ _ c.requires _ one _ c.globals-globals.ensures _ _ run.places run.value

pub returns : goal.returns
returns c =
    let cells : FIRSTS ≤ length c.args.plan.now = let many = c.requires.cells in omega arith in
    let one = begun _ _ c.args.plan.now _ cells c.first_variables.ensures in
    let run = c.place_run-end.ensures in
    let frames = c.place_frames.ensures in
    places_filled _ _ _ _ _ c.requires _ one _ c.globals-globals.ensures _ _ run.places run.value _ frames

pub shape_of-plan : goal.shape_of-plan
shape_of-plan c = (returns c).cells
