use Rattle.calling.proofs.Arguments.{object_room, cells_room, type_there, value_room, as_object, as_value}
use Rattle.calling.proofs.Arguments.{as_cells}
use Rattle.calling.proofs.pass.Goals as goal

pub pass_object-requires : goal.pass_object-requires
pass_object-requires c =
    let at = c.place_of-place.ensures in
    (c.requires.0, object_room c.requires.1 c.variable_at-parameter.ensures at c.if-parameter-eq3.true)

pub returns-then-parameter-eq3 : goal.returns-then-parameter-eq3
returns-then-parameter-eq3 c =
    let at = c.place_of-place.ensures in
    let kind = c.if-parameter-eq3.true in
    λ output.
    as_object _ _ _ c.args.a c.variable_at-parameter.ensures at kind
    (c.pass_object.ensures output)

pub is_single-requires : goal.is_single-requires
is_single-requires c =
    let at = c.place_of-place.ensures in
    type_there c.requires.1 c.variable_at-parameter.ensures at c.args.loaded.now.planned

pub pass_value-requires : goal.pass_value-requires
pass_value-requires c =
    let at = c.place_of-place.ensures in
    let room = value_room c.requires.1 c.variable_at-parameter.ensures at c.args.loaded.now.planned in (
      c.requires.0,
      room c.if-parameter-eq3.false
          (rw (← c.is_single.ensures) c.if-is_single.true),
    )

pub returns-then-is_single : goal.returns-then-is_single
returns-then-is_single c =
    let at = c.place_of-place.ensures in
    λ output.
    as_value _ _ _ c.args.a c.variable_at-parameter.ensures at c.if-parameter-eq3.false
    (rw (← c.is_single.ensures) c.if-is_single.true)
    (c.pass_value.ensures output)

pub pass_cells-requires : goal.pass_cells-requires
pass_cells-requires c =
    let at = c.place_of-place.ensures in
    let there = type_there c.requires.1 c.variable_at-parameter.ensures at c.args.loaded.now.planned in
    let room = cells_room c.requires.1 c.variable_at-parameter.ensures at c.if-parameter-eq3.false in
    (c.requires.0, there, room)

pub returns : goal.returns
returns c =
    let at = c.place_of-place.ensures in
    λ output.
    as_cells _ _ _ c.args.a c.variable_at-parameter.ensures at c.if-parameter-eq3.false
    (rw (← c.is_single.ensures) c.if-is_single.false)
    (c.pass_cells.ensures output)
