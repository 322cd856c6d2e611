use mathlib.Core.Path.{◌≡◌, refl, ◌∙◌, ap₂}
use Prim.Native.Nat.{suc, ◌+◌}
use native.Mathlib.Omega.{arith}
use lib.Bits.{bit_or}
use Rattle.prelude.proofs.Cells.{filled_next}
use Rattle.ancestors.proofs.Ancestors.{word_next}
use Rattle.ancestors.proofs.fill.Goals as goal

pub loop-r-preserved : goal.loop-r-preserved
loop-r-preserved c = let l = c.loop-r in
    let one : l.r + 1 ≡ suc l.r = omega arith in
    let word = ap₂ bit_or c.base_word.ensures c.own_bit.ensures ∙ word_next _ _ l.r _ l.invariant.cell in
    rw one (filled_next c.args.from l.r _ _ _ _ _ l.invariant refl (omega (arith, l.invariant.cells, c.requires)) word)
