use Rattle.contents.proofs.Parting.{Elements, Fields}
use Prim.Native.Nat.{◌+◌, ◌-◌, ◌*◌}
use Rattle.contents.proofs.Reader.+based_fields_object_parted.Given as goal

abbrev pub decreases-based : goal.decreases-based
decreases-based l = 3 * l.b

abbrev pub decreases-fields : goal.decreases-fields
decreases-fields l = 3 * l.r

abbrev pub decreases-object : goal.decreases-object
decreases-object l = 3 * l.r + 2

abbrev pub decreases-parted : goal.decreases-parted
decreases-parted l = 3 * l.r + 1

abbrev pub invariant-fields-loop-j : goal.invariant-fields-loop-j
invariant-fields-loop-j l = Fields l.self.t.now l.self.f.now l.self.store.now l.k l.n l.a l.j l.at

abbrev pub invariant-parted-loop : goal.invariant-parted-loop
invariant-parted-loop l = Elements l.self.t.now l.self.f.now l.self.store.now l.r l.a l.core l.size (l.end - l.counter) l.at
