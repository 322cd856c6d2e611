use mathlib.Core.Path.{◌≡◌}
use mathlib.Core.List.{map}
use Prim.Native.Nat.{◌+◌, ◌-◌}
use lib.ListN.{get_or}
use Rattle.shapes.specs.Forms.{own_types}
use Rattle.contents.specs.Kinds.{joint_from}
use Rattle.contents.proofs.own_kind.Given as goal

-- `contents::own_kind` meets its contract: at each turn the fields from row j on are left.
abbrev pub invariant-loop-j : goal.invariant-loop-j
invariant-loop-j l =
    joint_from l.before (map (λ u. get_or l.even u 0) (own_types l.f l.k l.n))
    ≡ joint_from l.kind (map (λ u. get_or l.even u 0) (own_types l.f l.j (l.k + l.n - l.j)))
