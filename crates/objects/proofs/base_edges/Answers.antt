use mathlib.Core.Path.{◌≡◌, sym, ◌∙◌}
use Prim.Native.Nat.{suc}
use native.Mathlib.Omega.{arith}
use Rattle.prelude.proofs.Bits.{bit_none}
use Rattle.objects.proofs.Bases.{said_none, said_some}
use Rattle.objects.proofs.base_edges.Goals as goal

pub returns-in_default : goal.returns-in_default
returns-in_default c = let a = c.args in
    let none : a.a ≡ 0 = omega arith in
    λ w. (bit_none w ∙ said_none a.tables.starts.now w a.a none, bit_none w ∙ said_none a.tables.ends.now w a.a none)

pub returns : goal.returns
returns c = let a = c.args in
    let some : a.a ≡ suc c.in-Some.base = omega arith in
    λ w. (
      c.without.ensures w ∙ sym (said_some a.tables.starts.now w a.a some),
      c.without-2.ensures w ∙ sym (said_some a.tables.ends.now w a.a some),
    )
