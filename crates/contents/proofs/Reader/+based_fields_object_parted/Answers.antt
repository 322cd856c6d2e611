use mathlib.Core.Path.{◌≡◌}
use Prim.Native.Nat.{◌+◌, ◌-◌}
use native.Mathlib.Omega.{arith}
use Rattle.contents.proofs.Parting.{in_even, in_plan, run_room, held_run, held_none, held_core, stands}
use Rattle.contents.proofs.Parting.{element_there, element_parts, elements_first, element_inside, element_fails}
use Rattle.contents.proofs.Parting.{elements_next, elements_end, record_parts, before_is, base_inside, base_none}
use Rattle.contents.proofs.Parting.{base_some, fields_first, field_below, field_inside, field_fails, fields_next}
use Rattle.contents.proofs.Parting.{fields_skip, fields_end, record_fails, record_holds}
use Rattle.contents.proofs.Reader.+based_fields_object_parted.Goals as goal

pub based-returns-in_default : goal.based-returns-in_default
based-returns-in_default t c = base_none c.requires.0 c.args.a (omega (arith, c.in_default.ensures))

pub based-object-requires : goal.based-object-requires
based-object-requires t c =
    let p = c.requires in
    let some = c.in-Some.ensures in
    (omega (arith, c.decreases, some.1), (p.0, rw some.1 (base_inside p.0 (omega arith) p.1 p.2)))

pub based-returns : goal.based-returns
based-returns t c = let some = c.in-Some.ensures in
    base_some c.requires.0 c.args.a (omega arith) (rw some.1 at c.object.ensures)

pub fields-loop-j-init : goal.fields-loop-j-init
fields-loop-j-init t c = fields_first c.requires.0 c.args.k c.args.n c.args.a c.requires.4

pub fields-a_at-u-requires : goal.fields-a_at-u-requires
fields-a_at-u-requires t c = omega (arith, c.requires.2)

pub fields-told-requires : goal.fields-told-requires
fields-told-requires t c =
    let p = c.requires in
    let l = c.loop-j in
    let more = c.loop-j-test.true in
    let low = p.1 in
    let under = field_below p.0 low p.3 l.invariant more c.a_at-u.ensures in
    in_even p.0 (omega arith)

pub fields-loop-j-preserved-then-told-eq-EMPTY : goal.fields-loop-j-preserved-then-told-eq-EMPTY
fields-loop-j-preserved-then-told-eq-EMPTY t c =
    let p = c.requires in
    let l = c.loop-j in
    let more = c.loop-j-test.true in
    fields_skip p.0 p.1 p.3 l.invariant more c.a_at-u.ensures
    c.told.ensures c.if-told-eq-EMPTY.true

pub fields-object-requires : goal.fields-object-requires
fields-object-requires t c =
    let p = c.requires in
    let l = c.loop-j in
    let more = c.loop-j-test.true in
    let this = c.a_at-u.ensures in
    let under = field_below p.0 p.1 p.3 l.invariant more this in
    (omega (arith, c.decreases), (p.0, field_inside p.0 p.1 p.3 l.invariant more this))

pub fields-returns-then-not-object : goal.fields-returns-then-not-object
fields-returns-then-not-object t c =
    let p = c.requires in
    let l = c.loop-j in
    let more = c.loop-j-test.true in
    field_fails p.0 p.1 p.3 l.invariant more c.a_at-u.ensures
    c.object.ensures c.if-not-object.true

pub fields-size_of-at-requires : goal.fields-size_of-at-requires
fields-size_of-at-requires t c =
    let p = c.requires in
    let l = c.loop-j in
    let more = c.loop-j-test.true in
    let low = p.1 in
    let under = field_below p.0 low p.3 l.invariant more c.a_at-u.ensures in
    in_plan p.0 (omega arith)

pub fields-overflow_add-at : goal.fields-overflow_add-at
fields-overflow_add-at t c =
    let p = c.requires in
    let l = c.loop-j in
    let more = c.loop-j-test.true in
    let this = c.a_at-u.ensures in
    let room = run_room p.0 (field_inside p.0 p.1 p.3 l.invariant more this) c.size_of-at.ensures in
    omega (arith, p.0.most)

pub fields-loop-j-preserved : goal.fields-loop-j-preserved
fields-loop-j-preserved t c =
    let p = c.requires in
    let l = c.loop-j in
    let more = c.loop-j-test.true in
    fields_next p.0 p.1 p.3 l.invariant more
    c.a_at-u.ensures c.size_of-at.ensures
    c.object.ensures c.if-not-object.false

pub fields-returns : goal.fields-returns
fields-returns t c = fields_end c.requires.0 c.loop-j.invariant c.loop-j-test.false

pub object-told-kind-requires : goal.object-told-kind-requires
object-told-kind-requires t c = let p = c.requires in in_even p.0 p.1.row

pub object-size_of-size-requires : goal.object-size_of-size-requires
object-size_of-size-requires t c = let p = c.requires in in_plan p.0 p.1.row

pub object-run-requires : goal.object-run-requires
object-run-requires t c =
    let p = c.requires in
    (p.0.most, c.if-kind-lt-EMPTY.true, run_room p.0 p.1 c.size_of-size.ensures)

pub object-returns-then-kind-lt-EMPTY : goal.object-returns-then-kind-lt-EMPTY
object-returns-then-kind-lt-EMPTY t c =
    let p = c.requires in
    held_run p.0 p.1 c.size_of-size.ensures c.told-kind.ensures
    c.if-kind-lt-EMPTY.true c.run.ensures

pub object-returns-then-kind-eq-EMPTY : goal.object-returns-then-kind-eq-EMPTY
object-returns-then-kind-eq-EMPTY t c =
    let p = c.requires in
    held_none p.0 p.1 c.told-kind.ensures c.if-kind-eq-EMPTY.true

pub object-parted-requires : goal.object-parted-requires
object-parted-requires t c =
    let p = c.requires in
    let s = stands p.0 p.1 c.told-kind.ensures (omega arith) in
    let low = s.low in
    (omega (arith, c.decreases), (p.0, s.inside, s.own))

pub object-returns : goal.object-returns
object-returns t c =
    let p = c.requires in
    held_core p.0 p.1 (stands p.0 p.1 c.told-kind.ensures (omega arith))
    c.parted.ensures

pub parted-based-requires : goal.parted-based-requires
parted-based-requires t c =
    let p = c.requires in
    let q = record_parts p.0 p.1 c.row_at-row.ensures c.if-row-eq4.true in
    let most = q.base in
    let low = p.1.row in
    (omega (arith, c.decreases), (p.0, omega arith, q.base_room))

pub parted-overflow_add-own : goal.parted-overflow_add-own
parted-overflow_add-own t c =
    let p = c.requires in
    let this = c.row_at-row.ensures in
    let kind = c.if-row-eq4.true in
    let q = record_parts p.0 p.1 this kind in
    omega (arith, p.0.most, q.base_room, before_is p.0 p.1 this kind c.base_size-before.ensures)

pub parted-fields-requires : goal.parted-fields-requires
parted-fields-requires t c =
    let p = c.requires in
    let this = c.row_at-row.ensures in
    let kind = c.if-row-eq4.true in
    let q = record_parts p.0 p.1 this kind in
    let e = before_is p.0 p.1 this kind c.base_size-before.ensures in
    (omega (arith, c.decreases), (p.0, p.1.row, q.there, q.lows, rw e q.own_room))

pub parted-returns-then-based : goal.parted-returns-then-based
parted-returns-then-based t c =
    let p = c.requires in
    record_holds p.0 p.1 c.row_at-row.ensures
    c.if-row-eq4.true c.based.ensures
    c.if-based.true c.base_size-before.ensures c.fields.ensures

pub parted-returns-then-row-eq4 : goal.parted-returns-then-row-eq4
parted-returns-then-row-eq4 t c =
    let p = c.requires in
    record_fails p.0 p.1 c.row_at-row.ensures c.if-row-eq4.true
    c.based.ensures c.if-based.false

pub parted-size_of-size-requires : goal.parted-size_of-size-requires
parted-size_of-size-requires t c =
    let p = c.requires in
    in_plan p.0 (element_there p.0 p.1 p.2 c.row_at-row.ensures
    c.if-row-eq4.false)

pub parted-told-kind-requires : goal.parted-told-kind-requires
parted-told-kind-requires t c =
    let p = c.requires in
    in_even p.0 (element_there p.0 p.1 p.2 c.row_at-row.ensures
    c.if-row-eq4.false)

pub parted-overflow_sub-core : goal.parted-overflow_sub-core
parted-overflow_sub-core t c =
    let p = c.requires in
    element_parts p.0 p.1 p.2 c.row_at-row.ensures
    c.if-row-eq4.false c.told-kind.ensures

pub parted-loop-init : goal.parted-loop-init
parted-loop-init t c =
    let p = c.requires in
    let second = c.row_at-row.result.b in
    let all : second - 0 ≡ second = omega arith in
    rw all
    (elements_first p.0 p.1 p.2 c.row_at-row.ensures
    c.if-row-eq4.false c.size_of-size.ensures c.told-kind.ensures)

pub parted-parted-requires : goal.parted-parted-requires
parted-parted-requires t c =
    let p = c.requires in
    let l = c.loop.invariant in
    let low = l.low in
    (omega (arith, c.decreases), (p.0, element_inside p.0 p.1 l (omega arith), l.own))

pub parted-returns-then-not-parted : goal.parted-returns-then-not-parted
parted-returns-then-not-parted t c =
    let p = c.requires in
    element_fails p.0 p.1 c.loop.invariant (omega arith) c.parted.ensures c.if-not-parted.true

pub parted-overflow_add-at : goal.parted-overflow_add-at
parted-overflow_add-at t c =
    let p = c.requires in
    let l = c.loop.invariant in
    let room = (element_inside p.0 p.1 l (omega arith)).room in
    omega (arith, p.0.most, l.sized)

pub parted-loop-preserved : goal.parted-loop-preserved
parted-loop-preserved t c =
    let p = c.requires in
    let second = c.row_at-row.result.b in
    let one : second - c.loop.counter - 1 ≡ second - (c.loop.counter + 1) = omega arith in
    rw one at
    (elements_next p.0 p.1 c.loop.invariant (omega arith) c.parted.ensures c.if-not-parted.false)

pub parted-returns : goal.parted-returns
parted-returns t c =
    let p = c.requires in
    elements_end p.0 p.1 c.loop.invariant (omega arith)
