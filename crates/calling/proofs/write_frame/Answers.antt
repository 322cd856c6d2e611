use mathlib.Core.Path.{◌∙◌}
use Prim.Native.Nat.{◌≤◌}
use native.Mathlib.Omega.{arith}
use borrow.Author.Rules.{rules}
use lib.ListN.{length, length-set}
use Rattle.values.proofs.Numbers.{of_nat64}
use Rattle.calling.proofs.Entering.{three_links}
use Rattle.calling.proofs.write_frame.Goals as goal

-- `calling::write_frame` meets its contract: zeros, then three stores, which change no length.
pub bounds-frame-1 : goal.bounds-frame-1
bounds-frame-1 c =
    let two : 2 ≤ length c.zero.new.store = omega (arith, c.zero.auto.store, c.requires) in
    simp length-set two

pub bounds-frame-2 : goal.bounds-frame-2
bounds-frame-2 c = let three : 3 ≤ length c.zero.new.store = omega (arith, c.zero.auto.store, c.requires) in simp length-set three

pub returns : goal.returns
returns c =
    let a = c.args in
    let three : 3 ≤ length c.zero.new.store = omega (arith, c.zero.auto.store, c.requires) in
    rw (of_nat64 a.caller (search rules), of_nat64 a.back (search rules), of_nat64 a.base (search rules))
    (three_links c.zero.new.store _ _ _ three ∙ rw c.zero.ensures)
