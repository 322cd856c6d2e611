use Prim.Native.Nat.{◌+◌}
use mathlib.Core.Path.{◌≡◌, refl, ap}
use borrow.Author.Tests.{ne_eqb, eq-eqb}
use lib.Dec.{eqb}
use Rattle.prelude.specs.Choice.{◌also◌}
use Rattle.semantics.specs.Running.{global_room}
use Rattle.asking.specs.Asking.{room_of}
use Rattle.unwinding.specs.Links.{link_at, oldest_kept}
use Rattle.unwinding.proofs.Conjunctions.{both_yes, both_no, of_four}
use Rattle.unwinding.proofs.oldest_kept.Goals as goal
use Rattle.unwinding.proofs.oldest_kept.Goals.{then-b-global_room, else-b-global_room, then-link-eq0, else-link-eq0}
use Rattle.unwinding.proofs.oldest_kept.Goals.{Joined-link-eq0}

-- the first two tests
two : (c : Joined-link-eq0) → c.if-b-global_room.value
    ≡ (eqb c.args.b c.global_room.result also eqb (link_at c.args.top c.args.store.now c.args.b) 0)
two c = elim c.if-b-global_room.branch [
  | then-b-global_room v ↦ both_yes _ (eq-eqb _ _ v.if-b-global_room.true) (rw v.link.ensures at v.value-is)
  | else-b-global_room v ↦ both_no _ (ne_eqb _ _ v.if-b-global_room.false) v.value-is
]

-- with the third
three : (c : Joined-link-eq0) → c.if-link-eq0.value
    ≡ (c.if-b-global_room.value also eqb (link_at c.args.top c.args.store.now (c.args.b + 1)) 0)
three c = elim c.if-link-eq0.branch [
  | then-link-eq0 w ↦ both_yes _ w.if-link-eq0.true (rw w.link-then-link-eq0.ensures at w.value-is)
  | else-link-eq0 w ↦ both_no _ w.if-link-eq0.false w.value-is
]

pub returns-then-link-eq0-2 : goal.returns-then-link-eq0-2
unfolding oldest_kept room_of global_room
returns-then-link-eq0-2 c =
    let b = (goal.at.returns-then-link-eq0-2 c).Joined-link-eq0 in
    let third = eqb (link_at c.args.top c.args.store.now (c.args.b + 2)) 0 in
    rw c.global_room.ensures
    at (of_four _ _ _ third (two b) (three b) (both_yes third c.if-link-eq0-2.true (ap (λ n. eqb n 0) c.link-then-link-eq0-2.ensures)))

pub returns-else-link-eq0-2 : goal.returns-else-link-eq0-2
unfolding oldest_kept room_of global_room
returns-else-link-eq0-2 c =
    let b = (goal.at.returns-else-link-eq0-2 c).Joined-link-eq0 in
    let third = eqb (link_at c.args.top c.args.store.now (c.args.b + 2)) 0 in
    rw c.global_room.ensures at (of_four _ _ _ third (two b) (three b) (both_no third c.if-link-eq0-2.false refl))
