use mathlib.Core.Path.{sym, ◌∙◌}
use mathlib.Core.List.{[], ◌∷◌}
use Prim.Native.Nat.{◌<◌}
use native.Mathlib.Omega.{arith}
use borrow.Author.Rules.{rules}
use lib.IntN.{pos}
use Rattle.values.proofs.Numbers.{of_nat64}
use Rattle.cells.proofs.Overwriting.{overwrite_lent}
use Rattle.finding.proofs.Seeing.{seen}
use Rattle.calling.proofs.Arguments.{place_lost, place_written}
use Rattle.calling.proofs.pass_object.Goals as goal

-- `calling::pass_object` meets its contract: two cells of the lent part, or what the operand's loss comes to.
pub returns-in_default : goal.returns-in_default
returns-in_default c = λ output.
    rw (c.lost.ensures, ← (seen c.new.result c.new.ensures c.args.k c.find-found.ensures))
    (place_lost _ _ _ c.in_default.not-Ok)

pub returns : goal.returns
returns c =
    let found = sym (seen c.new.result c.new.ensures c.args.k c.find-found.ensures) ∙ c.in-Ok.is in
    let room = c.requires.0.top in
    let object = c.in-Ok.object in
    let a : object.address < 9223372036854775808 = search rules in
    let d : object.dynamic < 9223372036854775808 = omega (arith, c.struct_known-2-1.given) in
    let e = rw (of_nat64 object.address a, of_nat64 object.dynamic d) at c.put_pair.ensures in
    λ output.
    place_written _ c.args.place (λ o. pos o.address ∷ pos o.dynamic ∷ []) found
    (overwrite_lent _ _ _ c.args.s.top c.args.place room e)
