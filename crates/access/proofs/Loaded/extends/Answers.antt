use mathlib.Core.Path.{◌≡◌, sym, ◌∙◌, ap}
use Prim.Native.Nat.{◌+◌, ◌-◌}
use native.Mathlib.Omega.{arith}
use Rattle.prelude.specs.Bits.{bit_of}
use Rattle.relations.proofs.Extension.{extends_missing, extends_later}
use Rattle.semantics.specs.Running.{program_of}
use Rattle.ancestors.proofs.Ancestors.{word_bit}
use Rattle.access.proofs.Bounds.{types_few}
use Rattle.access.proofs.Loaded.extends.Goals as goal

pub returns-then-r-gt63 : goal.returns-then-r-gt63
returns-then-r-gt63 c = sym (extends_missing _ c.args.r c.args.u (omega (arith, types_few c.args.self.now.planned)))

pub returns-then-u-lt32 : goal.returns-then-u-lt32
returns-then-u-lt32 c = let r = c.args.r in
    let u = c.args.u in
    let here : 0 + u ≡ u = omega arith in
    let types = (program_of c.args.self.now.image.now).types in
    c.holds.ensures ∙ ap (λ word. bit_of word u) (c.args.self.now.planned.lower r (omega arith))
    ∙ rw here at (word_bit types 0 u r (omega arith))

pub returns-then-u-lt64 : goal.returns-then-u-lt64
returns-then-u-lt64 c = let r = c.args.r in
    let u = c.args.u in
    let here : 32 + (u - 32) ≡ u = omega arith in
    let types = (program_of c.args.self.now.image.now).types in
    c.holds-then-u-lt64.ensures ∙ ap (λ word. bit_of word (u - 32)) (c.args.self.now.planned.upper r (omega arith))
    ∙ rw here at (word_bit types 32 (u - 32) r (omega arith))

pub returns : goal.returns
returns c = sym (extends_later _ c.args.r c.args.u (omega arith))
