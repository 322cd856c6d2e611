use mathlib.Core.Path.{refl, sym, ◌∙◌, ap}
use Prim.Native.Nat.{◌+◌}
use native.Mathlib.Omega.{arith}
use borrow.Author.Rules.{rules}
use lib.IntN.{pos}
use lib.ListN.{length, get_or}
use Rattle.values.proofs.Numbers.{plain64}
use Rattle.semantics.specs.Memory.{part_at}
use Rattle.cells.proofs.Overwriting.{part_length, overwrite_none, overwrite_length, copy_lent}
use Rattle.cells.proofs.copy_above.Goals as goal

pub loop-i-init : goal.loop-i-init
unfolding part_at
loop-i-init c = (refl, sym (overwrite_none _ _))

pub loop-i-preserved : goal.loop-i-preserved
loop-i-preserved c =
    let l = c.loop-i in
    let a = c.args in
    let (size, copied) = l.invariant in
    let e = rw (plain64 (get_or l.store (a.from + l.i) (pos 0)) (search rules)) at c.put.ensures in
    let whole =
    copy_lent a.store.now l.store c.put.new.store a.top a.from a.place l.i (pos 0)
    (omega (arith, c.requires.0)) (omega (arith, c.requires.1)) copied e in
    let many = part_length a.store.now a.from (l.i + 1) (omega (arith, c.requires.0, c.requires.1)) in
    (ap length whole ∙ overwrite_length _ _ _ (omega (arith, many)), whole)
