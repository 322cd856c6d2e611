use mathlib.Core.Path.{◌≡◌, sym, ◌∙◌}
use Prim.Native.Nat.{◌-◌, ◌*◌, ◌^◌}
use native.Mathlib.Omega.{arith}
use lib.Pow.{shl_exact}
use Rattle.ancestors.proofs.Ancestors.{own_below, own_past, own_one}
use Rattle.ancestors.proofs.own_bit.Goals as goal

pub returns-then-r-low : goal.returns-then-r-low
returns-then-r-low c = sym (own_below _ _ c.if-r-low.true)

pub returns-then-i-gt-LAST : goal.returns-then-i-gt-LAST
returns-then-i-gt-LAST c = sym (own_past _ _ c.if-r-low.false c.if-i-gt-LAST.true)

pub returns : goal.returns
returns c = let k = c.args.r - c.args.low in
    let one : 1 * 2 ^ k ≡ 2 ^ k = omega arith in
    shl_exact 1 k 32 (omega arith) (omega arith) ∙ one ∙ sym (own_one _ _ c.if-r-low.false c.if-i-gt-LAST.false)
